use Rattle.std.proofs.Common.{◌∙◌, ap}
use Rattle.prop_map.specs.declared.modifiers.Modifier.{Modifier}
use Rattle.prop_map.specs.Overlay.{modified_characters}
use Rattle.prop_map.proofs.Public.{characters_after}
use Rattle.doc_patch.proofs.modify.properties_over.Goals as goal

pub returns : goal.returns
returns c =
    characters_after c.in_ok-change.change c.args.base.now c.in_ok-made.made c.in_ok-made.ensures.map
    ∙ ap (λ (modifier : Modifier). modified_characters modifier c.args.base.now) c.in_ok-change.ensures
