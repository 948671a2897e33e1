use Rattle.effective_props.specs.StopSteps.{DeletesUpTo, kinds_in}
use Rattle.effective_props.proofs.stops.delete.Given as goal

abbrev pub invariant-loop-i : goal.invariant-loop-i
invariant-loop-i l = DeletesUpTo l.change l.i (kinds_in l.initial.stops) (kinds_in l.stops)
