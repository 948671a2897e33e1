use Rattle.std.proofs.Common.{ℕ, ◌<◌, ◌≤◌, ◌+◌, ◌*◌, length}
use Rattle.fkp_pages.specs.Bin.{page_number}
use Rattle.fkp_gaps.proofs.gaps.are_pages_within.Given as goal

-- the pages of the first ranges are in the stream
abbrev pub invariant-loop-k : goal.invariant-loop-k
invariant-loop-k l = (j : ℕ) → j < l.k → (2 ≤ page_number l.bin j) × (512 * page_number l.bin j + 512 ≤ length l.wd)
