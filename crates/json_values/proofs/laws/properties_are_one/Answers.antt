use Rattle.json_values.proofs.SpeltLemmas.{properties_one}
use Rattle.json_values.proofs.laws.properties_are_one.Goals as goal

pub returns : goal.returns
returns c = properties_one
