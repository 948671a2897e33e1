use Rattle.json_values.proofs.PlainLemmas.{plain_read}
use Rattle.json_values.proofs.laws.plain_values_are_read.Goals as goal

pub returns : goal.returns
returns c = plain_read
