use Rattle.std.proofs.Common.{◌≡◌, take}
use Rattle.effective_props.specs.Layers.{paragraph_properties, properties_of_styles}
use Rattle.list_numbers.specs.MarkValues.{mark_values_in, AreKnownValues}
use Rattle.list_numbers.proofs.style_values.values_of_chain.Given as goal

-- the values are those of the styles so far
abbrev pub invariant-loop-i : goal.invariant-loop-i
invariant-loop-i l = record {
  values : l.values ≡ mark_values_in (properties_of_styles paragraph_properties l.sheet (take l.i l.chain));
  known : AreKnownValues l.sheet l.known.items;
}
