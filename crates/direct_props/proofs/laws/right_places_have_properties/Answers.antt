use Rattle.direct_props.proofs.ExistDirect.{direct_properties_there}
use Rattle.direct_props.proofs.laws.right_places_have_properties.Goals as goal

pub returns : goal.returns
returns c = direct_properties_there
