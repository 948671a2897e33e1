use Rattle.std.proofs.Common.{◌∙◌, ap, sym}
use Rattle.std.specs.Prelude.{take}
use Rattle.piece_table.specs.Piece.{flat_pieces}
use Rattle.piece_table.proofs.SpliceLemmas.{truncated}
use Rattle.piece_table.proofs.pieces.PieceList.truncate.Goals as goal

pub returns-clause-text : goal.returns-clause-text
returns-clause-text c =
    truncated c.reserve.new.self.pieces c.splice.new.self.pieces c.args.count c.total-total.result c.total-total.ensures.value
    c.splice.ensures.text
    ∙ ap (λ pieces. take c.args.count (flat_pieces pieces)) c.reserve.ensures.pieces
