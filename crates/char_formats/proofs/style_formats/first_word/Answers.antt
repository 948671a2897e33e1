use Rattle.std.proofs.Common.{arith}
use Rattle.doc_bits.specs.Number.{number_at}
use Rattle.char_formats.proofs.style_formats.first_word.Goals as goal

pub returns : goal.returns
unfolding number_at
returns c = omega arith
