use Rattle.std.proofs.Common.{◌+◌, ◌<◌, ◌≤◌, ℕ, slice_index_or}
use Rattle.file_rules.proofs.narrow.greatest.Given as goal

-- none of the first bytes is greater
abbrev pub invariant-loop-j : goal.invariant-loop-j
invariant-loop-j l = (j : ℕ) → j < l.j → slice_index_or l.wd (l.at + j) 0 ≤ l.most
