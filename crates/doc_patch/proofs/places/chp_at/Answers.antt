-- The properties at the place.
use Rattle.std.proofs.Common.{◌≡◌, List, Some, length, map, ap, subst, arith}
use Rattle.std.specs.Prelude.{slice_get}
use Rattle.std.proofs.lemmas.List.{length-map}
use Rattle.std.proofs.lemmas.Option.{slice_get_past}
use Rattle.run_lists.specs.declared.cursor.Cursor.{Cursor}
use Rattle.run_lists.proofs.Public.{length-spread}
use Rattle.prop_map.specs.Settings.{Properties}
use Rattle.doc_model.specs.declared.item.Item.{Item}
use Rattle.doc_columns.proofs.Public.{start_at}
use Rattle.doc_patch.proofs.places.chp_at.Goals as goal

pub returns-then-place-len : goal.returns-then-place-len
returns-then-place-len c =
    slice_get_past (map (λ (item : Item). item.chp) c.args.text.now) c.args.place
    (omega (arith, c.if-place-len.true, c.len.ensures.len, length-map c.args.text.now (λ (item : Item). item.chp)))

pub seek-requires-clause-at : goal.seek-requires-clause-at
seek-requires-clause-at c = start_at c.chps.result.now c.new-cursor.result c.new-cursor.ensures

pub seek-requires-clause-ahead : goal.seek-requires-clause-ahead
seek-requires-clause-ahead c = omega (arith, ap (λ (cursor : Cursor). cursor.begin) c.new-cursor.ensures)

pub seek-requires-clause-within : goal.seek-requires-clause-within
seek-requires-clause-within c =
    omega (
      arith,
      c.if-place-len.false,
      c.len.ensures.len,
      length-spread c.chps.result.now,
      ap length c.chps.ensures,
      length-map c.args.text.now (λ (item : Item). item.chp),
    )

pub returns : goal.returns
returns c =
    subst (λ (t : List Properties). slice_get t c.args.place ≡ Some c.seek.result.now) c.chps.ensures
    c.seek.ensures.value
