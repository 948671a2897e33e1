use Rattle.std.proofs.Common.{◌≡◌, ◌++◌, map}
use Rattle.effective_props.specs.StopSteps.{tab_of}
use Rattle.effective_props.proofs.stops.tabs_of.Given as goal

abbrev pub invariant-loop-at : goal.invariant-loop-at
invariant-loop-at l = l.tabs ++ map tab_of l.at-iterator ≡ map tab_of l.initial.at-iterator
