use Rattle.std.proofs.Common.{ℕ, ◌<◌, ◌≤◌, get_or}
use Rattle.summary_set.proofs.retitle.is_plain.Given as goal

-- the bytes so far are plain
abbrev pub invariant-loop-i : goal.invariant-loop-i
invariant-loop-i l = (k : ℕ) → k < l.i → (0x20 ≤ get_or l.title k 0) × (get_or l.title k 0 ≤ 0x7E)
