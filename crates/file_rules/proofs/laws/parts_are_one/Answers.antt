use Rattle.file_rules.proofs.OneLemmas.{parts_one}
use Rattle.file_rules.proofs.laws.parts_are_one.Goals as goal

pub returns : goal.returns
returns c = parts_one
