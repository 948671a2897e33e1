use Rattle.std.proofs.Common.{ℕ, ◌<◌}
use Rattle.doc_parts.specs.BookmarkParts.{end_index}
use Rattle.doc_parts.proofs.bookmark_parts.starts_fault.Given as goal

-- the ends so far are there
abbrev pub invariant-loop-k : goal.invariant-loop-k
invariant-loop-k l = (j : ℕ) → j < l.k → end_index l.starts l.count j < l.count
