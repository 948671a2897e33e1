use Rattle.std.proofs.Common.{◌≡◌, ◌∙◌, ◌++◌, ◌∷◌, ◌+◌, ◌*◌, [], List, Some, sym, ap, subst, take, drop, length, suc}
use Rattle.std.proofs.Common.{arith, add-one}
use Rattle.std.specs.Prelude.{slice_get, IsTrue, ◌↔◌, MatchOption}
use Rattle.std.specs.Option.{option_map}
use Rattle.std.proofs.lemmas.List.{length-append}
use Rattle.piece_table.specs.Piece.{TextPiece, bare_piece, total_length}
use Rattle.session_text.specs.WrittenAgain.{IsRewritten, place_if_again, len_for}
use Rattle.session_text.proofs.PickLemmas.{next_piece}
use Rattle.session_text.proofs.WritingLemmas.{nothing_written, units_few, total_within, told, chosen_more, units_more}
use Rattle.session_text.proofs.writing.new_places.Goals as goal

pub loop-number-init : goal.loop-number-init
loop-number-init c = record {
  walk = c.walk-walk.ensures;
  at = rw c.new-places.ensures.items (omega arith);
  len = ap length c.new-places.ensures.items;
  chosen = rw c.new-places.ensures.items (nothing_written c.args.which c.args.text.now);
}

pub piece-piece-requires : goal.piece-piece-requires
piece-piece-requires c =
    let walk = ap length c.loop-number.invariant.walk in
    let test = c.loop-number-test.true in
    omega (arith, walk, test, c.len-number-end.ensures.value)

pub is_rewritten-again-requires : goal.is_rewritten-again-requires
is_rewritten-again-requires c =
    let walk = ap length (c.piece-piece.ensures.same ∙ c.loop-number.invariant.walk) in
    let test = c.loop-number-test.true in
    omega (arith, walk, test, c.len-number-end.ensures.value)

pub place_for-place-requires : goal.place_for-place-requires
place_for-place-requires c =
    let pieces = c.args.text.now.pieces.pieces in
    let number = c.loop-number.number in
    let value =
    subst (λ (all : List TextPiece). option_map bare_piece (slice_get all number) ≡ Some c.piece-piece.result)
    c.loop-number.invariant.walk c.piece-piece.ensures.value in
    let next = next_piece pieces number c.piece-piece.result value in
    omega (
      arith,
      c.loop-number.invariant.at,
      next.len,
      ap total_length next.whole,
      total_within (take number pieces) (drop (suc number) pieces) next.piece,
      units_few c.loop-number.places.items (take number pieces),
      c.requires,
    )

pub loop-number-preserved : goal.loop-number-preserved
loop-number-preserved c =
    let old = c.args.text.now in
    let pieces = old.pieces.pieces in
    let number = c.loop-number.number in
    let before = take number pieces in
    let value =
    subst (λ (all : List TextPiece). option_map bare_piece (slice_get all number) ≡ Some c.piece-piece.result)
    c.loop-number.invariant.walk c.piece-piece.ensures.value in
    let next = next_piece pieces number c.piece-piece.result value in
    let again = c.is_rewritten-again.result in
    let at = c.loop-number.at in
    let so_far = c.loop-number.places.items in
    let same = c.piece-piece.ensures.same ∙ c.loop-number.invariant.walk in
    let judged =
    subst (λ (all : List TextPiece). MatchOption (slice_get all number) ⊥
    (λ piece. IsTrue again ↔ IsRewritten old.added.base c.args.which piece)) same c.is_rewritten-again.ensures.again in
    let is = told (slice_get pieces number) (λ piece. IsTrue again ↔ IsRewritten old.added.base c.args.which piece)
    next.piece next.here judged in
    let len = c.loop-number.invariant.len in
    let begin = c.loop-number.invariant.at in
    let more = chosen_more c.args.which again old before (drop (suc number) pieces) next.piece so_far at next.whole
    c.requires is begin len c.loop-number.invariant.chosen in
    let places : c.push.new.self.items ≡ so_far ++ place_if_again again at ∷ [] =
    c.in_ok-push.ensures.items ∙ ap (λ p. so_far ++ p ∷ []) c.place_for-place.ensures.place in
    let front : take (number + 1) pieces ≡ before ++ next.piece ∷ [] = ap (λ n. take n pieces) (add-one number) ∙
    next.next in
    let units = units_more so_far before again at next.piece len in
    let end = c.place_for-place.ensures.end ∙ ap (λ n. at + 2 * len_for again n) (sym next.len) in
    record {
      walk = c.is_rewritten-again.ensures.walk ∙ same;
      at = rw (places, front) (omega (arith, units, begin, end));
      len =
          rw (places, front) (omega (
            arith,
            len,
            length-append so_far (place_if_again again at ∷ []),
            length-append before (next.piece ∷ []),
          ));
      chosen = rw (places, front) more;
    }
