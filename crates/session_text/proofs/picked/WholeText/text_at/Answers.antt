use Rattle.std.proofs.Common.{◌∙◌, ◌++◌, length, ap, sym, subst, arith}
use Rattle.std.specs.List.{All}
use Rattle.std.proofs.lemmas.List.{length-map, length-append}
use Rattle.run_lists.specs.Spread.{expanded}
use Rattle.run_lists.proofs.Public.{length-spread}
use Rattle.doc_model.specs.declared.item.Item.{Item}
use Rattle.doc_model.specs.Document.{HasPropertyMaps}
use Rattle.doc_columns.specs.Attached.{attached_of}
use Rattle.session_text.proofs.PickLemmas.{picked_columns, picked_maps, renewed_few}
use Rattle.session_text.proofs.picked.WholeText.text_at.Goals as goal

pub picked_units-requires-clause-within : goal.picked_units-requires-clause-within
picked_units-requires-clause-within c =
    let main = c.args.self.now.main.now in
    let behind = c.args.self.now.behind.now in
    omega (
      arith,
      ap length c.units.ensures,
      ap length c.units-2.ensures,
      length-map main (λ (item : Item). item.unit),
      length-map behind (λ (item : Item). item.unit),
      length-append main behind,
      c.requires.within,
    )

pub picked_units-requires-clause-few : goal.picked_units-requires-clause-few
picked_units-requires-clause-few c =
    let main = c.args.self.now.main.now in
    let behind = c.args.self.now.behind.now in
    omega (
      arith,
      ap length c.units.ensures,
      ap length c.units-2.ensures,
      length-map main (λ (item : Item). item.unit),
      length-map behind (λ (item : Item). item.unit),
      length-append main behind,
      c.requires.few,
    )

pub picked_values-requires-clause-within : goal.picked_values-requires-clause-within
picked_values-requires-clause-within c =
    let main = c.args.self.now.main.now in
    let behind = c.args.self.now.behind.now in
    omega (
      arith,
      length-append (expanded c.chps.result.now) (expanded c.chps-2.result.now),
      ap length c.chps.ensures,
      ap length c.chps-2.ensures,
      length-map main (λ (item : Item). item.chp),
      length-map behind (λ (item : Item). item.chp),
      length-append main behind,
      c.requires.within,
    )

pub picked_values-requires-clause-few : goal.picked_values-requires-clause-few
picked_values-requires-clause-few c =
    let main = c.args.self.now.main.now in
    let behind = c.args.self.now.behind.now in
    omega (
      arith,
      length-append (expanded c.chps.result.now) (expanded c.chps-2.result.now),
      ap length c.chps.ensures,
      ap length c.chps-2.ensures,
      length-map main (λ (item : Item). item.chp),
      length-map behind (λ (item : Item). item.chp),
      length-append main behind,
      c.requires.few,
    )

pub picked_values-requires-2-clause-within : goal.picked_values-requires-2-clause-within
picked_values-requires-2-clause-within c =
    let main = c.args.self.now.main.now in
    let behind = c.args.self.now.behind.now in
    omega (
      arith,
      length-append (expanded c.attachments.result.now) (expanded c.attachments-2.result.now),
      ap length c.attachments.ensures,
      ap length c.attachments-2.ensures,
      length-map main attached_of,
      length-map behind attached_of,
      length-append main behind,
      c.requires.within,
    )

pub picked_values-requires-2-clause-few : goal.picked_values-requires-2-clause-few
picked_values-requires-2-clause-few c =
    let main = c.args.self.now.main.now in
    let behind = c.args.self.now.behind.now in
    omega (
      arith,
      length-append (expanded c.attachments.result.now) (expanded c.attachments-2.result.now),
      ap length c.attachments.ensures,
      ap length c.attachments-2.ensures,
      length-map main attached_of,
      length-map behind attached_of,
      length-append main behind,
      c.requires.few,
    )

pub picked_values-requires-clause-lists : goal.picked_values-requires-clause-lists
picked_values-requires-clause-lists c =
    omega (
      arith,
      length-spread c.chps.result.now,
      ap length c.chps.ensures,
      length-map c.args.self.now.main.now (λ (item : Item). item.chp),
      c.len-first_len.ensures.len,
    )

pub picked_values-requires-2-clause-lists : goal.picked_values-requires-2-clause-lists
picked_values-requires-2-clause-lists c =
    omega (
      arith,
      length-spread c.attachments.result.now,
      ap length c.attachments.ensures,
      length-map c.args.self.now.main.now attached_of,
      c.len-first_len.ensures.len,
    )

pub from_parts-requires-clause-few : goal.from_parts-requires-clause-few
from_parts-requires-clause-few c =
    let placed = c.args.placed.now in
    omega (
      arith,
      ap length c.in_ok-units.ensures,
      renewed_few placed.places.now placed.pieces.now.pieces (c.units.result.now ++ c.units-2.result.now),
      c.requires.within,
      c.requires.few,
    )

pub from_parts-requires-clause-chps : goal.from_parts-requires-clause-chps
from_parts-requires-clause-chps c =
    let placed = c.args.placed.now in
    let whole = c.args.self.now in
    let are = picked_columns placed.places.now placed.pieces.now.pieces whole.main.now whole.behind.now _ _ _ _ _ _ _ _
    _ c.units.ensures c.units-2.ensures c.chps.ensures c.chps-2.ensures c.attachments.ensures c.attachments-2.ensures
    c.in_ok-units.ensures c.in_ok-chps.ensures c.in_ok-attachments.ensures in
    are.chps_long

pub from_parts-requires-clause-attachments : goal.from_parts-requires-clause-attachments
from_parts-requires-clause-attachments c =
    let placed = c.args.placed.now in
    let whole = c.args.self.now in
    let are = picked_columns placed.places.now placed.pieces.now.pieces whole.main.now whole.behind.now _ _ _ _ _ _ _ _
    _ c.units.ensures c.units-2.ensures c.chps.ensures c.chps-2.ensures c.attachments.ensures c.attachments-2.ensures
    c.in_ok-units.ensures c.in_ok-chps.ensures c.in_ok-attachments.ensures in
    are.attachments_long

pub from_parts-requires-clause-maps : goal.from_parts-requires-clause-maps
from_parts-requires-clause-maps c =
    let placed = c.args.placed.now in
    let whole = c.args.self.now in
    let are = picked_columns placed.places.now placed.pieces.now.pieces whole.main.now whole.behind.now _ _ _ _ _ _ _ _
    _ c.units.ensures c.units-2.ensures c.chps.ensures c.chps-2.ensures c.attachments.ensures c.attachments-2.ensures
    c.in_ok-units.ensures c.in_ok-chps.ensures c.in_ok-attachments.ensures in
    subst (All HasPropertyMaps) (sym are.is)
    (picked_maps placed.places.now placed.pieces.now.pieces whole.main.now whole.behind.now
    c.len-first_len.ensures.formed c.len-behind.ensures.formed)

pub returns : goal.returns
returns c =
    let placed = c.args.placed.now in
    let whole = c.args.self.now in
    let are = picked_columns placed.places.now placed.pieces.now.pieces whole.main.now whole.behind.now _ _ _ _ _ _ _ _
    _ c.units.ensures c.units-2.ensures c.chps.ensures c.chps-2.ensures c.attachments.ensures c.attachments-2.ensures
    c.in_ok-units.ensures c.in_ok-chps.ensures c.in_ok-attachments.ensures in
    c.from_parts.ensures ∙ are.is
