use Rattle.std.proofs.Common.{sym, ◌∙◌}
use Rattle.fib_form.proofs.FibRuleLemmas.{wrong_size-form}
use Rattle.fib_form.proofs.reading.wrong_size.Goals as goal

pub returns-else-get16-ne-CSLW_WORD97 : goal.returns-else-get16-ne-CSLW_WORD97
returns-else-get16-ne-CSLW_WORD97 c = wrong_size-form c.args.wd.now c.wrong_form.result
    (sym c.get16.ensures ∙ c.if-get16-ne-CSW_WORD97.false)
    (sym c.get16-else-get16-ne-CSW_WORD97.ensures ∙ c.if-get16-ne-CSLW_WORD97.false) c.wrong_form.ensures
