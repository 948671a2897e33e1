use Rattle.std.proofs.Common.{◌≡◌, take}
use Rattle.fkp_pages.specs.InARow.{numbered_bins}
use Rattle.fkp_pages.proofs.packing.Pages.ranges.Given as goal

-- the ranges of the pages so far
abbrev pub invariant-loop-i : goal.invariant-loop-i
invariant-loop-i l = l.ranges ≡ numbered_bins l.number (take l.i l.self.starts)
