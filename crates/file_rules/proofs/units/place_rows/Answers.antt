use Rattle.std.proofs.Common.{◌∙◌, ap, sym, subst, map, slice_get, ℕ}
use Rattle.piece_table.specs.Piece.{UnitPlace, places_of_piece}
use Rattle.direct_props.specs.Rows.{AreRows, row_places_of}
use Rattle.direct_props.proofs.Public.{AreRows_push, AreRows-nil, places_of-nil}
use Rattle.file_rules.specs.Units.{unmodified_piece}
use Rattle.file_rules.proofs.UnitLemmas.{few_places, map-flat_pieces-none, piece_read, places-any, rows_more}
use Rattle.file_rules.proofs.units.place_rows.Goals as goal

pub loop-i-init : goal.loop-i-init
loop-i-init c = record {
  places = ap row_places_of c.in_ok-rows.ensures.items ∙ (places_of-nil ∙ sym (map-flat_pieces-none (λ place.
      place.at)));
  each = subst AreRows (sym c.in_ok-rows.ensures.items) AreRows-nil;
}

pub loop-i-preserved : goal.loop-i-preserved
loop-i-preserved c =
    let pieces = c.args.pieces.now.pieces in
    let place_of : UnitPlace → ℕ = λ place. place.at in
    let i = c.loop-i.i in
    let so_far = c.loop-i.invariant in
    let rows = c.loop-i.rows.items in
    let read = piece_read (slice_get pieces i) c.piece.result c.piece.ensures.value in
    let same = ap (λ piece. map place_of (places_of_piece (unmodified_piece piece))) (sym read.1.1) ∙ places-any read.0
    in
    record {
      places = ap row_places_of c.in_ok-push.ensures.items ∙ rows_more rows c.row_of.result pieces i read.0 read.1.0
          so_far.places (c.row_of.ensures.places ∙ same);
      each = subst AreRows (sym c.in_ok-push.ensures.items) (AreRows_push rows c.row_of.result so_far.each
          c.row_of.ensures.row);
    }

pub returns-clause-rows : goal.returns-clause-rows
returns-clause-rows c = record {
  each = c.loop-i.invariant.each;
  few = few_places c.args.pieces.now.pieces c.loop-i.i _ c.loop-i.invariant.places c.len.ensures.sound.total;
}
