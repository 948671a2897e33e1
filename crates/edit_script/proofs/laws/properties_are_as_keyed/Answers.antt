use Rattle.edit_script.proofs.SettingsLemmas.{properties_are}
use Rattle.edit_script.proofs.laws.properties_are_as_keyed.Goals as goal

pub returns : goal.returns
returns c = properties_are
