use Rattle.std.proofs.Common.{◌≡◌, ◌≤◌, ◌+◌, length, take, slice_get, subst, arith, refl, ◌++◌, ◌∙◌, ap, sym, map}
use Rattle.std.proofs.lemmas.Option.{slice_get_within, get_or_from_slice_get}
use Rattle.piece_table.specs.declared.pieces.Piece.{Piece}
use Rattle.piece_table.specs.Piece.{places_of_piece, flat_pieces, piece_end, total_length}
use Rattle.file_rules.specs.Units.{unmodified_piece, unit_at}
use Rattle.file_rules.proofs.UnitLemmas.{map-flat_pieces-none, map-flat_pieces-more, piece_read, units-any, total-more}
use Rattle.file_rules.proofs.UnitLemmas.{total-within}
use Rattle.file_rules.proofs.units.put_all.Goals as goal

pub loop-i-init : goal.loop-i-init
loop-i-init c = record {
  units_len = c.requires.units;
  cp_is = refl;
  units_so_far = sym (map-flat_pieces-none (unit_at c.args.wd.now));
}

pub put_units-requires-clause-end : goal.put_units-requires-clause-end
put_units-requires-clause-end c =
    let pieces = c.args.pieces.now.pieces in
    let read = piece_read (slice_get pieces c.loop-i.i) c.piece-piece.result c.piece-piece.ensures.value in
    let there = slice_get_within pieces c.loop-i.i read.0 read.1.0 in
    subst (λ piece. piece_end piece ≤ length c.args.wd.now) read.1.1 (rw (get_or_from_slice_get pieces c.loop-i.i
    read.0 read.0 read.1.0) at (c.requires.within c.loop-i.i read.0 there))

pub put_units-requires-clause-room : goal.put_units-requires-clause-room
put_units-requires-clause-room c =
    let pieces = c.args.pieces.now.pieces in
    let read = piece_read (slice_get pieces c.loop-i.i) c.piece-piece.result c.piece-piece.ensures.value in
    let within = total-within pieces c.loop-i.i read.0 read.1.0 in
    let len : read.0.len ≡ c.piece-piece.result.len = ap (λ (p : Piece). p.len) read.1.1 in
    omega (arith, within, len, c.loop-i.invariant.cp_is, c.loop-i.invariant.units_len)

pub loop-i-preserved : goal.loop-i-preserved
loop-i-preserved c =
    let pieces = c.args.pieces.now.pieces in
    let unit = unit_at c.args.wd.now in
    let i = c.loop-i.i in
    let so_far = c.loop-i.invariant in
    let read = piece_read (slice_get pieces i) c.piece-piece.result c.piece-piece.ensures.value in
    let len : read.0.len ≡ c.piece-piece.result.len = ap (λ (p : Piece). p.len) read.1.1 in
    let units = ap (λ piece. map unit (places_of_piece (unmodified_piece piece))) (sym read.1.1) ∙ units-any
    c.args.wd.now
    read.0 in
    record {
      units_len = c.put_units.ensures.len ∙ so_far.units_len;
      cp_is = ap (λ n. n + c.piece-piece.result.len) so_far.cp_is ∙ (ap (λ n. total_length (take i pieces) + n)
          (sym len) ∙ sym (total-more pieces i read.0 read.1.0));
      units_so_far =
          c.put_units.ensures.put ∙ (ap (λ xs. xs ++ map unit (places_of_piece (unmodified_piece c.piece-piece.result)))
          so_far.units_so_far
          ∙ (ap (λ xs. map unit (flat_pieces (take i pieces)) ++ xs) units ∙ sym (map-flat_pieces-more unit pieces i
          read.0 read.1.0)));
    }
