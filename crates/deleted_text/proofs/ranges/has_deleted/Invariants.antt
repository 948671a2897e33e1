use Rattle.std.specs.Prelude.{slice_index_or}
use Rattle.std.proofs.Common.{◌≡◌, ◌<◌, ℕ, false}
use Rattle.deleted_text.proofs.ranges.has_deleted.Given as goal

-- none of those so far is set
abbrev pub invariant-loop-k : goal.invariant-loop-k
invariant-loop-k l = (at : ℕ) → at < l.k → slice_index_or l.flags at false ≡ false
