use Rattle.std.specs.Prelude.{slice_index_or}
use Rattle.std.proofs.Common.{◌≡◌, ◌<◌, ℕ, None}
use Rattle.huge_papx.proofs.defining.names_some.Given as goal

-- none of those so far is named
abbrev pub invariant-loop-k : goal.invariant-loop-k
invariant-loop-k l = (at : ℕ) → at < l.k → slice_index_or l.offsets at None ≡ None
