use Rattle.std.proofs.Common.{◌≡◌, ◌++◌, take}
use Rattle.direct_props.proofs.places.Places.push_row.Given as goal

-- the first places are behind the list
abbrev pub invariant-loop-k : goal.invariant-loop-k
invariant-loop-k l = l.list.items ≡ l.fn.list.items ++ take l.k l.self
