use Rattle.std.proofs.Common.{◌==◌, Some, ap, ◌∙◌}
use Rattle.effective_props.specs.Values.{tabs_code}
use Rattle.effective_props.specs.ValueSteps.{value_laid_over}
use Rattle.effective_props.proofs.ValueLemmas.{put_over, false_of}
use Rattle.effective_props.proofs.values.lay.Goals as goal

pub returns-in_ok-put : goal.returns-in_ok-put
returns-in_ok-put c = λ other.
    let code = c.args.code.0 in
    rw c.in_ok-put.ensures.ok (put_over code other c.args.values.now c.args.value.now c.in_ok-made.made
    (false_of (code == tabs_code) c.if-ne.ensures)
    (ap Some c.in_ok-made.ensures ∙ (c.in-Some.ensures ∙ ap (λ o. value_laid_over code o c.args.value.now)
    c.get.ensures)))
