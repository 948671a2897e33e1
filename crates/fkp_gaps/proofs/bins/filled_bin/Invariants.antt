use Rattle.std.proofs.Common.{◌-◌}
use Rattle.fkp_gaps.specs.Filled.{IsPageFor, greatest_fc}
use Rattle.fkp_gaps.proofs.RangeLemmas.{IsOnItsWay}
use Rattle.fkp_gaps.proofs.bins.filled_bin.Given as goal

-- the ranges that are closed, and the one that may go on, name the right pages
abbrev pub invariant-loop-last : goal.invariant-loop-last
invariant-loop-last l = IsOnItsWay (IsPageFor l.kind l.bin l.wd l.number) l.bins l.last

abbrev pub decreases-loop-last : goal.decreases-loop-last
decreases-loop-last l = greatest_fc - l.last.to
