use Rattle.fast_save.proofs.CountLemmas.{few_pieces}
use Rattle.fast_save.proofs.parts.pieces_are_few.Goals as goal

pub returns : goal.returns
returns c = few_pieces c.args.pieces.now.pieces c.len.ensures.sound
