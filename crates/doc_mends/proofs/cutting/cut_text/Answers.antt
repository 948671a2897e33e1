use Rattle.std.proofs.Common.{◌∙◌, ap, sym, subst, arith, ℕ, Bool, List, length, map}
use Rattle.std.specs.Prelude.{All}
use Rattle.std.proofs.lemmas.List.{length-map}
use Rattle.prop_map.specs.Settings.{Properties}
use Rattle.run_lists.proofs.Public.{length-spread}
use Rattle.doc_model.specs.declared.item.Item.{Item}
use Rattle.doc_model.specs.Document.{HasPropertyMaps}
use Rattle.doc_columns.specs.declared.attached.Attached.{Attached}
use Rattle.doc_columns.specs.Attached.{attached_of}
use Rattle.doc_mends.specs.Cuts.{unflagged}
use Rattle.doc_mends.proofs.CutLemmas.{unflagged-short, column_left, cut_items, maps_left}
use Rattle.doc_mends.proofs.cutting.cut_text.Goals as goal

pub cut_units-requires : goal.cut_units-requires
cut_units-requires c =
    omega (arith, c.requires, ap length c.units.ensures, length-map c.args.text.now (λ (item : Item). item.unit))

pub cut_runs-requires-clause-len : goal.cut_runs-requires-clause-len
cut_runs-requires-clause-len c =
    omega (
      arith,
      c.requires,
      length-spread c.chps.result.now,
      ap length c.chps.ensures,
      length-map c.args.text.now (λ (item : Item). item.chp),
    )

pub cut_runs-requires-clause-few : goal.cut_runs-requires-clause-few
cut_runs-requires-clause-few c =
    let few = c.len-len.ensures.formed.few in
    omega (
      arith,
      few,
      length-spread c.chps.result.now,
      ap length c.chps.ensures,
      length-map c.args.text.now (λ (item : Item). item.chp),
    )

pub cut_runs-requires-2-clause-len : goal.cut_runs-requires-2-clause-len
cut_runs-requires-2-clause-len c =
    omega (
      arith,
      c.requires,
      length-spread c.attachments.result.now,
      ap length c.attachments.ensures,
      length-map c.args.text.now attached_of,
    )

pub cut_runs-requires-2-clause-few : goal.cut_runs-requires-2-clause-few
cut_runs-requires-2-clause-few c =
    let few = c.len-len.ensures.formed.few in
    omega (
      arith,
      few,
      length-spread c.attachments.result.now,
      ap length c.attachments.ensures,
      length-map c.args.text.now attached_of,
    )

pub from_parts-requires-clause-few : goal.from_parts-requires-clause-few
from_parts-requires-clause-few c =
    let flags : List Bool = c.args.flags.now in
    let few = c.len-len.ensures.formed.few in
    let units = column_left flags c.args.text.now (λ (item : Item). item.unit) c.in_ok-units.units.items
    (c.in_ok-units.ensures ∙ ap (λ (l : List ℕ). unflagged flags l) c.units.ensures) in
    omega (arith, few, units, unflagged-short flags c.args.text.now)

pub from_parts-requires-clause-chps : goal.from_parts-requires-clause-chps
from_parts-requires-clause-chps c =
    let flags : List Bool = c.args.flags.now in
    column_left flags c.args.text.now (λ (item : Item). item.chp) c.in_ok-chps.chps
    (c.in_ok-chps.ensures ∙ ap (λ (l : List Properties). unflagged flags l) c.chps.ensures)
    ∙ sym (column_left flags c.args.text.now (λ (item : Item). item.unit) c.in_ok-units.units.items
    (c.in_ok-units.ensures ∙ ap (λ (l : List ℕ). unflagged flags l) c.units.ensures))

pub from_parts-requires-clause-attachments : goal.from_parts-requires-clause-attachments
from_parts-requires-clause-attachments c =
    let flags : List Bool = c.args.flags.now in
    column_left flags c.args.text.now attached_of c.in_ok-attachments.attachments
    (c.in_ok-attachments.ensures ∙ ap (λ (l : List Attached). unflagged flags l) c.attachments.ensures)
    ∙ sym (column_left flags c.args.text.now (λ (item : Item). item.unit) c.in_ok-units.units.items
    (c.in_ok-units.ensures ∙ ap (λ (l : List ℕ). unflagged flags l) c.units.ensures))

pub from_parts-requires-clause-maps : goal.from_parts-requires-clause-maps
from_parts-requires-clause-maps c =
    let flags : List Bool = c.args.flags.now in
    let text : List Item = c.args.text.now in
    let is = cut_items flags text c.in_ok-units.units.items c.in_ok-chps.chps c.in_ok-attachments.attachments
    (c.in_ok-units.ensures ∙ ap (λ (l : List ℕ). unflagged flags l) c.units.ensures)
    (c.in_ok-chps.ensures ∙ ap (λ (l : List Properties). unflagged flags l) c.chps.ensures)
    (c.in_ok-attachments.ensures ∙ ap (λ (l : List Attached). unflagged flags l) c.attachments.ensures) in
    subst (All HasPropertyMaps) (sym is) (maps_left flags text c.len-len.ensures.formed)

pub returns : goal.returns
returns c =
    let flags : List Bool = c.args.flags.now in
    c.from_parts.ensures
    ∙ cut_items flags c.args.text.now c.in_ok-units.units.items c.in_ok-chps.chps c.in_ok-attachments.attachments
    (c.in_ok-units.ensures ∙ ap (λ (l : List ℕ). unflagged flags l) c.units.ensures)
    (c.in_ok-chps.ensures ∙ ap (λ (l : List Properties). unflagged flags l) c.chps.ensures)
    (c.in_ok-attachments.ensures ∙ ap (λ (l : List Attached). unflagged flags l) c.attachments.ensures)
