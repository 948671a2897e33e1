use Rattle.std.proofs.Common.{◌≡◌, ◌++◌, length}
use Rattle.direct_props.proofs.places.Places.to_list.Given as goal

-- the places that are listed and those that are left are all
abbrev pub invariant-loop-left : goal.invariant-loop-left
invariant-loop-left l = l.list.items ++ l.left ≡ l.fn.self

abbrev pub decreases-loop-left : goal.decreases-loop-left
decreases-loop-left l = length l.left
