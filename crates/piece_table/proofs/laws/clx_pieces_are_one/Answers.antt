use Rattle.piece_table.proofs.UniqueLemmas.{clx_pieces_one}
use Rattle.piece_table.proofs.laws.clx_pieces_are_one.Goals as goal

pub returns : goal.returns
returns c = clx_pieces_one
