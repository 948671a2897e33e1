use Rattle.std.proofs.Common.{length}
use Rattle.prop_map.proofs.MergeLemmas.{HasMerged}
use Rattle.prop_map.proofs.block.Block.merge.Given as goal

abbrev pub invariant-loop-code : goal.invariant-loop-code
invariant-loop-code l = HasMerged l.fn.base l.fn.top l.lower l.left l.bytes

abbrev pub decreases-loop-code : goal.decreases-loop-code
decreases-loop-code l = length l.left
