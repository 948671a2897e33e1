use Rattle.std.proofs.Common.{◌≡◌, List, Some, subst, arith}
use Rattle.std.specs.Prelude.{slice_get}
use Rattle.std.specs.Option.{option_map}
use Rattle.piece_table.specs.Piece.{TextPiece}
use Rattle.session_text.proofs.WritingLemmas.{judged_piece}
use Rattle.session_text.proofs.writing.is_rewritten.Goals as goal

pub returns-else-end-base-clause-again : goal.returns-else-end-base-clause-again
returns-else-end-base-clause-again c =
    let number = c.args.number in
    let modifier =
    subst (λ (pieces : List TextPiece). option_map (λ (piece : TextPiece). piece.modifier) (slice_get pieces number)
    ≡ Some c.modifier-modifier.result.now) c.piece-piece.ensures.same c.modifier-modifier.ensures.value in
    judged_piece (slice_get c.args.walk.now number) c.args.base c.args.which c.include.result c.piece-piece.result
    c.modifier-modifier.result.now c.piece-piece.ensures.value modifier
    (omega (arith, c.end.ensures, c.if-end-base.false)) c.include.ensures
