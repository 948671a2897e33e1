use Rattle.piece_table.proofs.PieceLemmas.{length-flat_pieces}
use Rattle.piece_table.proofs.laws.flat_length_is_total.Goals as goal

pub returns : goal.returns
returns c = length-flat_pieces
