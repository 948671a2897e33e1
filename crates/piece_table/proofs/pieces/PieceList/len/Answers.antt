-- The invariant is about the pieces as they are seen.
use Rattle.std.proofs.Common.{subst}
use Rattle.piece_table.specs.Piece.{ArePieces}
use Rattle.piece_table.proofs.pieces.PieceList.len.Goals as goal

pub returns-clause-sound : goal.returns-clause-sound
returns-clause-sound c = subst (λ table. ArePieces table.pieces) c.self.view_is c.self.invariant.1.0
