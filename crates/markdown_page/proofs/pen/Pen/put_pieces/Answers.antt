use Rattle.markdown_page.specs.Pieces.{piece_tokens}
use Rattle.markdown_page.proofs.TokenLemmas.{three_tokens}
use Rattle.markdown_page.proofs.pen.Pen.put_pieces.Goals as goal

pub returns : goal.returns
returns g c =
    three_tokens g.K.Sink c.args.out.now c.put_piece.new.out c.put_piece-2.new.out c.put_piece-3.new.out
    c.args.self.now c.put_piece.new.self c.put_piece-2.new.self c.put_piece-3.new.self
    (piece_tokens c.args.pieces.first) (piece_tokens c.args.pieces.second) (piece_tokens c.args.pieces.third)
    c.put_piece.ensures c.put_piece-2.ensures c.put_piece-3.ensures
