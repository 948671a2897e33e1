use Rattle.json_values.proofs.OrderLemmas.{keys_ascend}
use Rattle.json_values.proofs.laws.read_keys_ascend.Goals as goal

pub returns : goal.returns
returns c = keys_ascend
