use Rattle.std.proofs.Common.{◌≡◌, ◌+◌, ◌∙◌, arith, length, slice_set, sym, ap, subst}
use Rattle.std.proofs.lemmas.Option.{slice_get_within, get_or_from_slice_get}
use Rattle.chunked_list.specs.Blocks.{total_units}
use Rattle.piece_table.specs.declared.pieces.Entry.{Entry}
use Rattle.piece_table.specs.Cuts.{AreCutEntries, front_entry, back_entry}
use Rattle.piece_table.proofs.BlockLemmas.{units-entries, spot_told, end_seam, units_behind}
use Rattle.piece_table.proofs.CutLemmas.{IsCutPlace, spot_place, spot_seam, cut_inside, cut_nowhere, cut_entries}
use Rattle.piece_table.proofs.CutLemmas.{inserted}
use Rattle.piece_table.proofs.cutting.cut.Goals as goal

pub returns-then-cp-total-clause-cut : goal.returns-then-cp-total-clause-cut
returns-then-cp-total-clause-cut c =
    let entries = c.args.entries.now.items in
    let end : c.args.cp ≡ c.args.total = omega (arith, c.if-cp-total.true) in
    subst (λ n. AreCutEntries entries entries c.args.cp n) (sym c.len.ensures.value)
    (cut_nowhere entries c.args.cp (length entries) c.requires.sound (end_seam entries c.args.cp (end
    ∙ c.requires.total)))

pub spot-spot-requires : goal.spot-spot-requires
spot-spot-requires c =
    let entries = c.args.entries.now.items in
    omega (arith, units-entries entries, c.requires.total, c.requires.within, c.if-cp-total.false)

pub returns-then-spot-eq0-clause-cut : goal.returns-then-spot-eq0-clause-cut
returns-then-spot-eq0-clause-cut c =
    let entries = c.args.entries.now.items in
    let is = spot_told entries c.args.cp c.spot-spot.result c.spot-spot.ensures in
    cut_nowhere entries c.args.cp c.spot-spot.result.item c.requires.sound (spot_seam entries c.args.cp
    (record { piece = c.spot-spot.result.item; within = c.spot-spot.result.within }) is
    (omega (arith, c.if-spot-eq0.true)))

pub get-entry-requires : goal.get-entry-requires
get-entry-requires c =
    let entries = c.args.entries.now.items in
    let is = c.spot-spot.ensures in
    slice_get_within entries c.spot-spot.result.item is.item is.there

pub back-requires-clause-inside : goal.back-requires-clause-inside
back-requires-clause-inside c =
    let entries = c.args.entries.now.items in
    let spot = c.spot-spot.result in
    let entry = c.get-entry.result in
    let is = spot_told entries c.args.cp spot c.spot-spot.ensures in
    let place : IsCutPlace entries c.args.cp spot.item spot.within entry =
    spot_place entries c.args.cp (record { piece = spot.item; within = spot.within }) entry is
    (omega (arith, c.if-spot-eq0.false))
    (sym (get_or_from_slice_get entries spot.item entry entry c.get-entry.ensures)) in
    place.less

pub set-requires-clause-units : goal.set-requires-clause-units
set-requires-clause-units c =
    let entries = c.args.entries.now.items in
    let spot = c.spot-spot.result in
    let entry = c.get-entry.result in
    let is = spot_told entries c.args.cp spot c.spot-spot.ensures in
    let place : IsCutPlace entries c.args.cp spot.item spot.within entry =
    spot_place entries c.args.cp (record { piece = spot.item; within = spot.within }) entry is
    (omega (arith, c.if-spot-eq0.false))
    (sym (get_or_from_slice_get entries spot.item entry entry c.get-entry.ensures)) in
    omega (
      arith,
      units_behind entries c.args.cp spot.item spot.within entry place,
      ap (λ (e : Entry). total_units (λ (e : Entry). e.piece.len) (slice_set entries spot.item e)) c.back.ensures,
      c.requires.total,
    )

pub insert-requires-clause-units : goal.insert-requires-clause-units
insert-requires-clause-units c =
    let entries = c.args.entries.now.items in
    let spot = c.spot-spot.result in
    let entry = c.get-entry.result in
    let is = spot_told entries c.args.cp spot c.spot-spot.ensures in
    let place : IsCutPlace entries c.args.cp spot.item spot.within entry =
    spot_place entries c.args.cp (record { piece = spot.item; within = spot.within }) entry is
    (omega (arith, c.if-spot-eq0.false))
    (sym (get_or_from_slice_get entries spot.item entry entry c.get-entry.ensures)) in
    omega (
      arith,
      units_behind entries c.args.cp spot.item spot.within entry place,
      ap (λ (e : Entry). total_units (λ (e : Entry). e.piece.len) (slice_set entries spot.item e)) c.back.ensures,
      ap (total_units (λ (e : Entry). e.piece.len)) c.set.ensures.items,
      ap (λ (e : Entry). e.piece.len) c.front.ensures,
      c.requires.total,
    )

pub returns-clause-cut : goal.returns-clause-cut
returns-clause-cut c =
    let entries = c.args.entries.now.items in
    let spot = c.spot-spot.result in
    let entry = c.get-entry.result in
    let is = spot_told entries c.args.cp spot c.spot-spot.ensures in
    let place : IsCutPlace entries c.args.cp spot.item spot.within entry =
    spot_place entries c.args.cp (record { piece = spot.item; within = spot.within }) entry is
    (omega (arith, c.if-spot-eq0.false))
    (sym (get_or_from_slice_get entries spot.item entry entry c.get-entry.ensures)) in
    let number = spot.item in
    let inside = spot.within in
    let low = slice_get_within entries number entry place.there in
    let new : c.insert.new.self.items ≡ cut_entries entries number inside entry =
    c.insert.ensures.items
    ∙ (rw (c.set.ensures.items, c.front.ensures, c.back.ensures) (inserted entries number (front_entry entry inside)
    (back_entry entry inside) low)) in
    subst (λ l. AreCutEntries entries l c.args.cp (number + 1)) (sym new) (cut_inside entries c.args.cp number inside
    entry
    place)
