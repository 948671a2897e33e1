use Rattle.std.proofs.Common.{◌<◌, ℕ, IsTrue}
use Rattle.std.specs.Prelude.{slice_index}
use Rattle.text_codes.specs.Shown.{IsUnescapedAscii}
use Rattle.text_codes.proofs.gathering.are_plain.Given as goal

-- where it says so, the units so far are plain
abbrev pub invariant-loop-k : goal.invariant-loop-k
invariant-loop-k l = IsTrue l.all → (i : ℕ) → i < l.k → IsUnescapedAscii (slice_index l.units i)
