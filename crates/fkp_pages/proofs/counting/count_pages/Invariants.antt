use Rattle.std.proofs.Common.{length, ◌-◌}
use Rattle.fkp_pages.proofs.CountLemmas.{AreCounted}
use Rattle.fkp_pages.proofs.counting.count_pages.Given as goal

-- so many pages have the first runs
abbrev pub invariant-loop-done : goal.invariant-loop-done
invariant-loop-done l = AreCounted l.kind l.runs l.done l.count

abbrev pub decreases-loop-done : goal.decreases-loop-done
decreases-loop-done l = length l.runs - l.done
