use Rattle.std.proofs.Common.{◌≡◌, ◌<◌, ◌≤◌, length, subst, sym, arith}
use Rattle.doc_parts.specs.declared.lists.Sed.{Sed}
use Rattle.file_rules.specs.SectionRules.{section_begin}
use Rattle.file_rules.specs.EndSearch.{IsNextEnd}
use Rattle.file_rules.proofs.RowLemmas.{index_of_get}
use Rattle.file_rules.proofs.EndLemmas.{begins_next, main_next, one_met}
use Rattle.file_rules.proofs.paragraph_ends.SectionEnds.behind.Goals as goal

pub returns-then-start-cp-clause-next : goal.returns-then-start-cp-clause-next
returns-then-start-cp-clause-next c =
    let sections = c.args.self.now.sections.now in
    let main_len = c.args.self.now.main_len in
    let cp = c.args.cp in
    let met = c.loop-self.self.met in
    let is = c.loop-self.invariant.same in
    let here = rw is at c.get-start.ensures in
    let begin : section_begin sections met ≡ c.get-start.result.0 =
    index_of_get (λ (sed : Sed). sed.start) sections met _ here in
    let so_far = rw is at c.loop-self.invariant.met in
    let there : met < length sections = omega (arith, rw (c.len.ensures, is) at c.loop-self-test.true) in
    subst (λ n. IsNextEnd sections main_len cp n) begin
    (begins_next sections main_len met cp c.requires.order so_far there (omega arith))

pub loop-self-preserved : goal.loop-self-preserved
loop-self-preserved c =
    let sections = c.loop-self.self.sections.now in
    let met = c.loop-self.self.met in
    let begin : section_begin sections met ≡ c.get-start.result.0 =
    index_of_get (λ (sed : Sed). sed.start) sections met _ c.get-start.ensures in
    record {
      met = one_met sections met c.args.cp c.loop-self.invariant.met (omega arith);
      same = c.loop-self.invariant.same;
      main = c.loop-self.invariant.main;
    }

pub returns-clause-next : goal.returns-clause-next
returns-clause-next c =
    let sections = c.args.self.now.sections.now in
    let main_len = c.args.self.now.main_len in
    let cp = c.args.cp in
    let met = c.loop-self.self.met in
    let is = c.loop-self.invariant.same in
    let so_far = rw is at c.loop-self.invariant.met in
    let all : length sections ≤ met = omega (arith, rw (c.len.ensures, is) at c.loop-self-test.false) in
    subst (λ n. IsNextEnd sections main_len cp n) (sym c.loop-self.invariant.main)
    (main_next sections main_len met cp so_far all c.requires.main)
