use Rattle.session_text.proofs.CommandLemmas.{commands_are_steps}
use Rattle.session_text.proofs.session_laws.commands_are_steps.Goals as goal

pub returns : goal.returns
returns c = commands_are_steps
