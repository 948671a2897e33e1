use Rattle.prop_map.proofs.ExistMaps.{after_list}
use Rattle.prop_map.proofs.laws.lists_make_maps.Goals as goal

pub returns : goal.returns
returns c = λ list groups old. let made = after_list list groups old in (made.new, made.after)
