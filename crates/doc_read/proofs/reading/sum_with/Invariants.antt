use Rattle.std.proofs.Common.{length}
use Rattle.doc_read.proofs.reading.sum_with.Given as goal

abbrev pub decreases-loop-code : goal.decreases-loop-code
decreases-loop-code l = length l.left
