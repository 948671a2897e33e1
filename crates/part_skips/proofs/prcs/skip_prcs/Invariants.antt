use Rattle.std.proofs.Common.{◌-◌, length}
use Rattle.part_skips.proofs.PrcLemmas.{SkipsFront}
use Rattle.part_skips.proofs.prcs.skip_prcs.Given as goal

abbrev pub invariant-loop-len : goal.invariant-loop-len
invariant-loop-len l = SkipsFront l.fn.clx l.clx l.at

abbrev pub decreases-loop-len : goal.decreases-loop-len
decreases-loop-len l = length l.clx - l.at
