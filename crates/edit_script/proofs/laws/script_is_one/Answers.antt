use Rattle.edit_script.proofs.ScriptLemmas.{script_one}
use Rattle.edit_script.proofs.laws.script_is_one.Goals as goal

pub returns : goal.returns
returns c = script_one
