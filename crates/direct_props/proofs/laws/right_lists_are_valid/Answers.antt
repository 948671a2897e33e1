use Rattle.direct_props.proofs.RightLemmas.{right_lists_are_valid}
use Rattle.direct_props.proofs.laws.right_lists_are_valid.Goals as goal

pub returns : goal.returns
returns c = right_lists_are_valid
