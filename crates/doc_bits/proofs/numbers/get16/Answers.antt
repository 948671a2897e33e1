use Rattle.std.proofs.Common.{◌∙◌}
use Rattle.doc_bits.proofs.NumberLemmas.{little_from-part}
use Rattle.doc_bits.proofs.numbers.get16.Goals as goal

pub returns : goal.returns
returns c = c.read_u16.ensures ∙ little_from-part 2 c.args.at c.args.bytes.now
