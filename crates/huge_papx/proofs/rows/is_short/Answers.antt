use Rattle.std.specs.Prelude.{nat_le}
use Rattle.std.proofs.Common.{◌≡◌, ◌∙◌, ◌&&◌, Bool, ap, sym, length}
use Rattle.std.proofs.lemmas.Bool.{leb-true}
use Rattle.prop_map.specs.declared.modifiers.Modifier.{Modifier}
use Rattle.prop_map.specs.Settings.{Properties}
use Rattle.prop_map.specs.Formed.{paragraph_groups}
use Rattle.prop_map.specs.Overlay.{modified_paragraph}
use Rattle.prop_map.specs.Printing.{printed_list}
use Rattle.prop_map.proofs.Public.{paragraph_after}
use Rattle.huge_papx.specs.Rows.{defining}
use Rattle.huge_papx.proofs.rows.is_short.Goals as goal

pub printed_len-requires : goal.printed_len-requires
printed_len-requires c =
    let few = leb-true (length c.args.cells.now) 480 (sym c.if-not-are_few.ensures) in
    (paragraph_groups, c.in_ok-after.ensures.formed (c.in_ok-modifier.ensures.formed few) c.requires)

pub returns : goal.returns
returns c =
    let cells = c.args.cells.now in
    let pap : Properties = c.args.pap.now in
    let after : c.in_ok-after.after.map ≡ modified_paragraph (defining cells) pap =
    paragraph_after c.in_ok-modifier.modifier pap c.in_ok-after.after.map c.in_ok-after.ensures.map
    ∙ ap (λ (m : Modifier). modified_paragraph m pap) c.in_ok-modifier.ensures.is in
    let printed = nat_le (length (printed_list (modified_paragraph (defining cells) pap))) 480 in
    ap (λ n. nat_le n 480) (c.printed_len.ensures.len ∙ ap (λ (p : Properties). length (printed_list p)) after)
    ∙ ap (λ (b : Bool). b && printed) c.if-not-are_few.ensures
