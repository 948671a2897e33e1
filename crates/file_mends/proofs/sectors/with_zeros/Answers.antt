use Rattle.std.proofs.Common.{rules}
use Rattle.doc_bits.specs.Number.{zeros}
use Rattle.file_mends.proofs.sectors.with_zeros.Goals as goal

pub returns : goal.returns
unfolding zeros
returns c = search rules
