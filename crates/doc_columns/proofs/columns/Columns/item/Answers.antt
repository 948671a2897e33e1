-- The item of the three columns at the place.
use Rattle.std.proofs.Common.{◌≡◌, ◌<◌, ℕ, List, length, get_or, Some, refl, sym, ◌∙◌, ap, arith}
use Rattle.std.specs.Prelude.{slice_get}
use Rattle.std.proofs.lemmas.List.{length-map}
use Rattle.std.proofs.lemmas.Option.{slice_get-get_or}
use Rattle.prop_map.specs.Settings.{Properties}
use Rattle.run_lists.specs.declared.cursor.Cursor.{Cursor}
use Rattle.run_lists.specs.Spread.{expanded}
use Rattle.doc_model.specs.declared.item.Item.{Item}
use Rattle.doc_columns.specs.declared.attached.Attached.{Attached}
use Rattle.doc_columns.specs.Attached.{attached_of}
use Rattle.doc_columns.proofs.ItemsOfLemmas.{item_at}
use Rattle.doc_columns.proofs.CollectLemmas.{start_at, whole_text}
use Rattle.doc_columns.proofs.EqualityLemmas.{column_long}
use Rattle.doc_columns.proofs.columns.Columns.item.Goals as goal

pub seek-requires-clause-at : goal.seek-requires-clause-at
seek-requires-clause-at c = start_at c.chps.result.now c.new.result c.new.ensures

pub seek-requires-clause-ahead : goal.seek-requires-clause-ahead
seek-requires-clause-ahead c = omega (arith, ap (λ (cursor : Cursor). cursor.begin) c.new.ensures)

pub seek-requires-clause-within : goal.seek-requires-clause-within
seek-requires-clause-within c =
    let text = c.args.self.now in
    omega (
      arith,
      column_long c.chps.result.now text (λ (item : Item). item.chp) (length text) c.chps.ensures refl,
      c.requires,
    )

pub seek-requires-2-clause-at : goal.seek-requires-2-clause-at
seek-requires-2-clause-at c = start_at c.attachments.result.now c.new-2.result c.new-2.ensures

pub seek-requires-2-clause-ahead : goal.seek-requires-2-clause-ahead
seek-requires-2-clause-ahead c = omega (arith, ap (λ (cursor : Cursor). cursor.begin) c.new-2.ensures)

pub seek-requires-2-clause-within : goal.seek-requires-2-clause-within
seek-requires-2-clause-within c =
    let text = c.args.self.now in
    omega (
      arith,
      column_long c.attachments.result.now text attached_of (length text) c.attachments.ensures refl,
      c.requires,
    )

pub returns : goal.returns
returns c =
    let text = c.args.self.now in
    let place = c.args.place in
    let units = c.units.result.now in
    let chps = expanded c.chps.result.now in
    let attachments = expanded c.attachments.result.now in
    let within : place < length units =
    omega (arith, ap length c.units.ensures, length-map text (λ (item : Item). item.unit), c.requires) in
    let unit : ℕ = get_or units place 0 in
    let chp : Properties = c.in_ok-chp.chp in
    let attached : Attached = c.in_ok-attached.attached in
    let unit_there : slice_get units place ≡ Some unit =
    slice_get-get_or units place 0 within in
    let chp_there : slice_get chps place ≡ Some chp =
    c.seek.ensures.value ∙ ap (λ (x : Properties). Some x) (sym c.in_ok-chp.ensures) in
    let attached_there : slice_get attachments place ≡ Some attached =
    c.seek-2.ensures.value ∙ ap (λ (x : Attached). Some x) (sym c.in_ok-attached.ensures) in
    ap (λ (items : List Item). slice_get items place)
    (sym (whole_text text units chps attachments c.units.ensures c.chps.ensures c.attachments.ensures))
    ∙ item_at units chps attachments place unit chp attached unit_there chp_there attached_there
    ∙ ap (λ (x : Item). Some x) (sym c.item_with.ensures)
