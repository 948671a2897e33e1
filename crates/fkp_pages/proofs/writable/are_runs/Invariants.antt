use Rattle.fkp_pages.proofs.RunsTested.{AreRunsUpTo}
use Rattle.fkp_pages.proofs.writable.are_runs.Given as goal

abbrev pub invariant-loop-i : goal.invariant-loop-i
invariant-loop-i l = AreRunsUpTo l.kind l.runs l.i
