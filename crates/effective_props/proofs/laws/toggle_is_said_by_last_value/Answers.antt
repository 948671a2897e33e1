use Rattle.effective_props.proofs.ToggleLemmas.{toggle_said}
use Rattle.effective_props.proofs.laws.toggle_is_said_by_last_value.Goals as goal

pub returns : goal.returns
returns c = toggle_said
