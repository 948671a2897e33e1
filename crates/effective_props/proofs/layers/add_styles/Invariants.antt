use Rattle.std.proofs.Common.{◌≡◌, ◌++◌, take}
use Rattle.effective_props.specs.Layers.{properties_of_styles}
use Rattle.effective_props.specs.LayerParts.{properties_in}
use Rattle.effective_props.proofs.layers.add_styles.Given as goal

abbrev pub invariant-loop-i : goal.invariant-loop-i
invariant-loop-i l = l.layers.items ≡ l.initial.layers.items ++ properties_of_styles (properties_in l.part) l.sheet
    (take l.i l.chain)
