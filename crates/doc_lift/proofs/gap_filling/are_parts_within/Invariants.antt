use Rattle.std.proofs.Common.{ℕ, ◌<◌, length}
use Rattle.fib_form.specs.FibFields.{listed_pair}
use Rattle.doc_meaning.specs.Filled.{IsPartWithin}
use Rattle.doc_lift.proofs.gap_filling.are_parts_within.Given as goal

-- the first parts end within the table stream
abbrev pub invariant-loop-n : goal.invariant-loop-n
invariant-loop-n l = (k : ℕ) → k < l.n → IsPartWithin (length l.table) (listed_pair l.early.pairs k)
