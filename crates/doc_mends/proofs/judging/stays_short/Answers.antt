use Rattle.std.proofs.Common.{◌≡◌, length, nat_le, ap, ◌∙◌}
use Rattle.prop_map.specs.declared.modifiers.Modifier.{Modifier}
use Rattle.prop_map.specs.Formed.{character_groups}
use Rattle.prop_map.specs.Overlay.{modified_characters}
use Rattle.prop_map.specs.Printing.{printed_list}
use Rattle.prop_map.proofs.Public.{characters_after}
use Rattle.doc_mends.specs.Mends.{striking}
use Rattle.doc_mends.proofs.judging.stays_short.Goals as goal

pub printed_len-requires : goal.printed_len-requires
printed_len-requires c =
    (character_groups, c.in_ok-struck.ensures.formed c.requires.formed c.requires.chp)

pub returns : goal.returns
returns c =
    let chp = c.args.chp.now in
    let struck : c.in_ok-struck.struck ≡ modified_characters striking chp =
    characters_after c.args.striking.now chp c.in_ok-struck.struck c.in_ok-struck.ensures.map
    ∙ ap (λ (modifier : Modifier). modified_characters modifier chp) c.requires.striking in
    ap (λ n. nat_le n 255) (c.printed_len.ensures.len ∙ ap (λ map. length (printed_list map)) struck)
