use Rattle.std.proofs.lemmas.Result.{MatchResult-weaker}
use Rattle.doc_bits.specs.declared.places.Where.TheVariants.{File}
use Rattle.doc_bits.specs.Rules.{rule, given}
use Rattle.doc_bits.specs.Places.{rules_in}
use Rattle.cfb_streams.specs.Contents.{HasNamed}
use Rattle.cfb_streams.specs.Names.{wd_name}
use Rattle.file_rules.specs.FileRules.{HasNoStream}
use Rattle.file_rules.proofs.Public.{refused-next, refused-given, stream-there}
use Rattle.doc_lift.specs.LiftedRules.{lifted_wd_rules, lifted_contents_rules}
use Rattle.doc_lift.proofs.LiftLemmas.{lifted_under}
use Rattle.doc_lift.proofs.lifting.lift_contents.Goals as goal

pub returns : goal.returns
returns c =
    let wd = c.in-Some.wd.now in
    let contents = c.args.container.now in
    let named : HasNamed contents.streams wd_name wd = c.in-Some.ensures in
    let there = stream-there File contents wd_name wd 15 0 named in
    let is = HasNamed contents.streams wd_name in
    MatchResult-weaker c.lift_wd.result c.lift_wd.ensures
    (λ lifted h. lifted_under (lifted_contents_rules contents) (lifted_wd_rules contents wd) contents lifted
    (there, (wd, (named, h.hold))) h)
    (λ refusal h. refused-next (rules_in File (rule 15 (HasNoStream contents wd_name 0)))
    (given is (lifted_wd_rules contents)) refusal there
    (refused-given is (lifted_wd_rules contents) wd refusal named h))
