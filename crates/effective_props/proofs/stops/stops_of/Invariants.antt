use Rattle.std.proofs.Common.{take}
use Rattle.effective_props.specs.StopSteps.{kinds_in}
use Rattle.effective_props.proofs.StopLemmas.{HoldsStops}
use Rattle.effective_props.proofs.stops.stops_of.Given as goal

abbrev pub invariant-loop-layer : goal.invariant-loop-layer
invariant-loop-layer l = HoldsStops (take l.layer-index l.layers) (kinds_in l.stops)
