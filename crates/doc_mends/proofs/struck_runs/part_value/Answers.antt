use Rattle.std.proofs.Common.{◌∙◌, ap, sym}
use Rattle.prop_map.specs.declared.modifiers.Modifier.{Modifier}
use Rattle.prop_map.specs.Overlay.{modified_characters}
use Rattle.prop_map.proofs.Public.{characters_after}
use Rattle.doc_mends.specs.Striking.{part_value}
use Rattle.doc_mends.proofs.struck_runs.part_value.Goals as goal

pub returns-then-not-struck : goal.returns-then-not-struck
returns-then-not-struck c =
    c.in_ok-copy.ensures ∙ sym (ap (λ struck. part_value struck c.args.chp.now) c.if-not-struck.true)

pub returns : goal.returns
returns c =
    characters_after c.args.striking.now c.args.chp.now c.in_ok-made.made c.in_ok-made.ensures.map
    ∙ (ap (λ (modifier : Modifier). modified_characters modifier c.args.chp.now) c.requires
    ∙ sym (ap (λ struck. part_value struck c.args.chp.now) c.if-not-struck.false))
