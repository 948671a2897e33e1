use Rattle.std.proofs.Common.{◌≡◌, ◌∙◌, ◌++◌, ◌∷◌, [], List, sym, ap, subst, append_assoc}
use Rattle.std.specs.Prelude.{IfOk}
use Rattle.prop_map.specs.Settings.{Properties}
use Rattle.prop_map.specs.Formed.{IsPropertyMap, character_groups}
use Rattle.prop_map.proofs.Public.{IsPropertyMap-empty}
use Rattle.doc_model.specs.declared.item.Item.{Item}
use Rattle.doc_columns.specs.Columns.{bare_items}
use Rattle.edit_ops.specs.Fresh.{mark_item, mark_with}
use Rattle.std.specs.FinMap.{empty}
use Rattle.edit_ops.proofs.rows.add_cell.Goals as goal

pub add_units-requires-clause-map : goal.add_units-requires-clause-map
add_units-requires-clause-map c =
    subst (IsPropertyMap character_groups) (sym c.new-none.ensures) (IsPropertyMap-empty character_groups)

pub returns : goal.returns
returns c =
    let units = c.args.units.now in
    let last = mark_item empty 0x07 (mark_with c.args.properties.now) in
    let all =
    ap (λ (shown : List Item). shown ++ last ∷ [])
    (c.in_ok-shown.ensures ∙ ap (λ (n : Properties). c.args.items ++ bare_items n units) c.new-none.ensures)
    ∙ append_assoc c.args.items (bare_items empty units) (last ∷ [])
    ∙ ap (λ (p : Properties). c.args.items ++ (bare_items empty units ++ mark_item empty 0x07 (mark_with p) ∷ []))
    c.requires.properties in
    subst (λ (t : List Item). IfOk c.with_cell_mark.result (λ made. made ≡ t)) all c.with_cell_mark.ensures
