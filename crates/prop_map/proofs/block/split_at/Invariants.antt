use Rattle.std.proofs.Common.{◌≡◌, length}
use Rattle.prop_map.proofs.BlockLemmas.{HasPassedBelow}
use Rattle.prop_map.proofs.block.split_at.Given as goal

abbrev pub invariant-loop-other : goal.invariant-loop-other
invariant-loop-other l = record { same : l.rest ≡ l.left; passed : HasPassedBelow l.entries l.code.0 l.left }

abbrev pub decreases-loop-other : goal.decreases-loop-other
decreases-loop-other l = length l.left
