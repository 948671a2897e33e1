use Rattle.std.proofs.Common.{arith}
use Rattle.std.proofs.lemmas.Result.{MatchResult-weaker}
use Rattle.doc_bits.specs.declared.places.Where.TheVariants.{File}
use Rattle.doc_bits.specs.Rules.{given}
use Rattle.doc_bits.specs.Places.{rules_in}
use Rattle.doc_bits.proofs.Public.{hold_in}
use Rattle.cfb_streams.specs.Container.{container_rules, HasContents}
use Rattle.file_rules.specs.Faults.{cfb_refusal}
use Rattle.file_rules.specs.FileRules.{contents_rules}
use Rattle.file_rules.proofs.ContentsLemmas.{streams-small}
use Rattle.file_rules.proofs.RefusalLemmas.{refused-first, refused-next, refused-given, refused-container}
use Rattle.file_rules.proofs.judging.check.Goals as goal

pub returns-in-Err : goal.returns-in-Err
returns-in-Err c =
    let rules = container_rules c.args.file.now in
    rw c.refused_container.ensures (refused-first (rules_in File rules) (given (HasContents c.args.file.now)
    contents_rules) (cfb_refusal c.in-Err.fault) (refused-container rules c.in-Err.fault c.in-Err.ensures))

pub check_contents-requires : goal.check_contents-requires
check_contents-requires c = streams-small c.args.file.now c.in-Ok.container (λ i. let byte = c.type_inv.file i in
    omega arith) c.in-Ok.ensures.1

pub returns-in-Ok : goal.returns-in-Ok
returns-in-Ok c =
    let file = c.args.file.now in
    let contents = c.in-Ok.container in
    let has : HasContents file contents = c.in-Ok.ensures.1 in
    let holds = hold_in File (container_rules file) c.in-Ok.ensures.0 in
    MatchResult-weaker c.check_contents.result c.check_contents.ensures
    (λ _ h. (holds, (contents, (has, h))))
    (λ refusal h. refused-next (rules_in File (container_rules file)) (given (HasContents file) contents_rules)
    refusal holds (refused-given (HasContents file) contents_rules contents refusal has h))
