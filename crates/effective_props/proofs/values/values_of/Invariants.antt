use Rattle.std.proofs.Common.{take}
use Rattle.effective_props.specs.Values.{IsEffectiveMap}
use Rattle.effective_props.proofs.values.values_of.Given as goal

abbrev pub invariant-loop-layer : goal.invariant-loop-layer
invariant-loop-layer l = IsEffectiveMap (take l.layer-index l.layers) l.values
