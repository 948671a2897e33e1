use Rattle.std.proofs.Common.{arith}
use Rattle.doc_losses.proofs.NumberLemmas.{long_is}
use Rattle.doc_losses.proofs.bytes.long_at.Goals as goal

pub returns : goal.returns
returns c =
    omega (arith, long_is c.args.bytes.now c.args.at, c.word_at-low.ensures, c.word_at-high.ensures)
