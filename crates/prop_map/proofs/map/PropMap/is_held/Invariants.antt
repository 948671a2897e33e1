use Rattle.std.proofs.Common.{◌↔◌, length}
use Rattle.std.specs.List.{All}
use Rattle.std.specs.FinMap.{entries}
use Rattle.prop_map.specs.Formed.{IsMapEntry}
use Rattle.prop_map.proofs.map.PropMap.is_held.Given as goal

-- the place holds the entries if it holds what is left
abbrev pub invariant-loop-code : goal.invariant-loop-code
invariant-loop-code l = All (IsMapEntry l.groups) (entries l.self) ↔ All (IsMapEntry l.groups) l.left

abbrev pub decreases-loop-code : goal.decreases-loop-code
decreases-loop-code l = length l.left
