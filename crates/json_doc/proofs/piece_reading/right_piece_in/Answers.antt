use Rattle.std.proofs.Common.{rules}
use Rattle.std.proofs.lemmas.Result.{err_from_is_err_and}
use Rattle.serde_json.specs.View.{view}
use Rattle.json_doc.specs.PieceReading.{IsFormedPiece}
use Rattle.json_doc.proofs.PieceReadLemmas.{pieces_one, piece_spelt}
use Rattle.json_doc.proofs.ReadLemmas.{misfit, refused, accepted}
use Rattle.json_doc.proofs.piece_reading.right_piece_in.Goals as goal

pub returns-in_err-piece-clause-pieces : goal.returns-in_err-piece-clause-pieces
returns-in_err-piece-clause-pieces c =
    let p = err_from_is_err_and c.from_residual.result c.from_residual.ensures.1 in
    rw (p.1, p.2) (misfit pieces_one IsFormedPiece piece_spelt (view c.args.value.now) c.in_err-piece.field-0.0
    c.in_err-piece.ensures)

pub returns-then-not-is_valid-clause-pieces : goal.returns-then-not-is_valid-clause-pieces
returns-then-not-is_valid-clause-pieces c =
    refused pieces_one IsFormedPiece piece_spelt (view c.args.value.now) c.in_ok-piece.piece c.in_ok-piece.ensures
    (λ formed. absurd (search (rules, c.is_valid.ensures.1 formed.0)))

pub returns-clause-pieces : goal.returns-clause-pieces
returns-clause-pieces c =
    accepted pieces_one IsFormedPiece piece_spelt (view c.args.value.now) c.in_ok-piece.piece c.in_ok-piece.ensures
    (c.is_valid.ensures.0 (search rules), c.has_numbers.ensures)
