use Rattle.piece_table.proofs.PieceLemmas.{one_sound}
use Rattle.piece_table.proofs.pieces.PieceList.one.Goals as goal

pub of-requires-clause-pieces : goal.of-requires-clause-pieces
of-requires-clause-pieces c = rw (
  c.in_ok-push.ensures.items,
  c.new-modifiers.ensures.items,
  c.none.ensures,
) (one_sound c.args.at c.args.len c.requires.some c.requires.most
    c.requires.end)
