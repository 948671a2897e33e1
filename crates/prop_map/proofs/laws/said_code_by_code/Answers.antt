use Rattle.prop_map.proofs.LawLemmas.{code_by_code}
use Rattle.prop_map.proofs.laws.said_code_by_code.Goals as goal

pub returns : goal.returns
returns c = code_by_code
