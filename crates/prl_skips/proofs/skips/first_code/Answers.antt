use Rattle.std.proofs.Common.{sym, subst}
use Rattle.sprm_table.specs.Cursor.{left}
use Rattle.sprm_table.specs.Sprm.{SpellsSprmList}
use Rattle.prl_skips.proofs.WalkLemmas.{first_given}
use Rattle.prl_skips.proofs.skips.first_code.Goals as goal

pub returns-in-Some-clause-first : goal.returns-in-Some-clause-first
returns-in-Some-clause-first c = λ prls h.
    let start = c.new-prls.ensures in
    first_given c.args.list.now c.new-prls.result c.next.new.self c.in-Some.code.0 c.in-Some.field-0-1 c.in-Some.to prls
    start c.in-Some.ensures.given
    (c.in-Some.ensures.taken prls (subst (λ s. SpellsSprmList (left s) prls) (sym start) h))

pub returns-in-None-clause-first : goal.returns-in-None-clause-first
returns-in-None-clause-first c = λ prls h.
    c.in-None.ensures.taken prls (subst (λ s. SpellsSprmList (left s) prls) (sym c.new-prls.ensures) h)
