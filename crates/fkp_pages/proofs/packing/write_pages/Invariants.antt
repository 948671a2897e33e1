use Rattle.std.proofs.Common.{length, ◌-◌}
use Rattle.fkp_pages.proofs.PagesSteps.{AreFirstPages}
use Rattle.fkp_pages.proofs.packing.write_pages.Given as goal

abbrev pub invariant-loop-done : goal.invariant-loop-done
invariant-loop-done l = AreFirstPages l.kind l.runs l.done l.bytes l.starts

abbrev pub decreases-loop-done : goal.decreases-loop-done
decreases-loop-done l = length l.runs - l.done
