use Rattle.edit_script.proofs.ScriptLemmas.{fault_is_one}
use Rattle.edit_script.proofs.laws.script_fault_is_one.Goals as goal

pub returns : goal.returns
returns c = fault_is_one
