use Rattle.std.proofs.Common.{length, slice_index}
use Rattle.cfb_sectors.proofs.EndLemmas.{IsRemembered}
use Rattle.cfb_sectors.proofs.ends.remember.Given as goal

abbrev pub invariant-loop-i : goal.invariant-loop-i
invariant-loop-i l = IsRemembered (λ s. slice_index l.entries s) (length l.fn.ends.counts) l.fn.ends l.ends l.path l.i
