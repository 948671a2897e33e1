use Rattle.effective_props.specs.StopSteps.{AddsUpTo, kinds_in}
use Rattle.effective_props.proofs.stops.add.Given as goal

abbrev pub invariant-loop-i : goal.invariant-loop-i
invariant-loop-i l = AddsUpTo l.change l.i (kinds_in l.initial.stops) (kinds_in l.stops)
