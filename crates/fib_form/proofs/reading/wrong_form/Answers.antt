-- The number of pairs is that of a form, so only what is behind the pairs may be wrong.
use Rattle.std.proofs.Common.{sym, ◌∙◌}
use Rattle.fib_form.specs.declared.form.Form.TheVariants.{Early, Later}
use Rattle.fib_form.proofs.FibRuleLemmas.{wrong_form-tail}
use Rattle.fib_form.proofs.reading.wrong_form.Goals as goal

pub returns-then-pairs-eq-EARLY_PAIRS : goal.returns-then-pairs-eq-EARLY_PAIRS
returns-then-pairs-eq-EARLY_PAIRS c = wrong_form-tail Early c.args.wd.now c.wrong_early_tail.result
    (sym c.get16-pairs.ensures ∙ c.if-pairs-eq-EARLY_PAIRS.true) c.wrong_early_tail.ensures

pub returns-then-pairs-eq-LATER_PAIRS : goal.returns-then-pairs-eq-LATER_PAIRS
returns-then-pairs-eq-LATER_PAIRS c = wrong_form-tail Later c.args.wd.now c.wrong_later_tail.result
    (sym c.get16-pairs.ensures ∙ c.if-pairs-eq-LATER_PAIRS.true) c.wrong_later_tail.ensures
