use Rattle.json_values.proofs.HexLemmas.{digits_one}
use Rattle.json_values.proofs.laws.digits_are_one.Goals as goal

pub returns : goal.returns
returns c = digits_one
