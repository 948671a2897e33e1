use Rattle.std.proofs.Common.{arith}
use Rattle.doc_losses.proofs.NumberLemmas.{word_is}
use Rattle.doc_losses.proofs.bytes.word_at.Goals as goal

pub returns : goal.returns
returns c =
    omega (arith, word_is c.args.bytes.now c.args.at, c.byte_at-low.ensures, c.byte_at-high.ensures)
