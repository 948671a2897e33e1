use Rattle.std.proofs.Common.{◌≡◌, ◌++◌, length}
use Rattle.std.specs.List.{All, flat_map}
use Rattle.std.specs.FinMap.{entries}
use Rattle.sprm_table.specs.Sprm.{IsPrl, spelling}
use Rattle.prop_map.proofs.map.PropMap.print_to.Given as goal

abbrev pub invariant-loop-code : goal.invariant-loop-code
invariant-loop-code l = record {
  prls : All IsPrl l.left;
  spelt : l.bytes ++ flat_map spelling l.left ≡ l.initial.bytes ++ flat_map spelling (entries l.self);
}

abbrev pub decreases-loop-code : goal.decreases-loop-code
decreases-loop-code l = length l.left
