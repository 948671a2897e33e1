use Rattle.direct_props.proofs.LawLemmas.{mark_one}
use Rattle.direct_props.proofs.laws.direct_mark_is_one.Goals as goal

pub returns : goal.returns
returns c = mark_one
