use Rattle.std.proofs.Common.{◌∙◌, ◌++◌, ◌∷◌, [], ℕ, List, get_or, sym, ap, subst}
use Rattle.prop_map.specs.Formed.{IsPropertyMap, character_groups}
use Rattle.prop_map.specs.Settings.{Properties}
use Rattle.doc_model.specs.declared.item.Item.{Item}
use Rattle.doc_model.specs.Document.{HasPropertyMaps}
use Rattle.doc_columns.specs.Columns.{bare_items}
use Rattle.json_doc.specs.PieceReading.{item_with}
use Rattle.json_doc.proofs.TextReadLemmas.{bare_piece, special_piece, piece_maps}
use Rattle.json_doc.proofs.piece_reading.with_piece.Goals as goal

pub add-requires-clause-maps : goal.add-requires-clause-maps
add-requires-clause-maps c =
    subst HasPropertyMaps (sym c.in_ok-item_of.ensures) (piece_maps c.args.piece.now _ c.requires.formed)

pub returns-then-is_special : goal.returns-then-is_special
returns-then-is_special c =
    let piece = c.args.piece.now in
    c.in_ok-made.ensures
    ∙ ap (λ (items : List Item). c.args.text ++ items)
    (ap (λ (x : Item). x ∷ []) c.in_ok-item_of.ensures
    ∙ (ap (λ (units : List ℕ). item_with piece (get_or units 0 0) ∷ []) c.as_slice-units.ensures
    ∙ special_piece piece c.requires.formed (sym c.is_special.ensures ∙ c.if-is_special.true)))

pub add_units-requires-clause-map : goal.add_units-requires-clause-map
add_units-requires-clause-map c =
    subst (IsPropertyMap character_groups) (sym c.in_ok-copy.ensures) c.requires.formed.0.chp

pub returns : goal.returns
returns c =
    let piece = c.args.piece.now in
    c.in_ok-made-2.ensures
    ∙ ap (λ (items : List Item). c.args.text ++ items)
    (ap (λ (chp : Properties). bare_items chp c.as_slice-units.result.now) c.in_ok-copy.ensures
    ∙ (ap (bare_items piece.chp) c.as_slice-units.ensures
    ∙ bare_piece piece piece.units (sym c.is_special.ensures ∙ c.if-is_special.false)))
