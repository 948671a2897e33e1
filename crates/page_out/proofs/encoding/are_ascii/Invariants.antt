use Rattle.std.proofs.Common.{◌<◌, ℕ, IsTrue}
use Rattle.std.specs.Prelude.{slice_index}
use Rattle.page_out.proofs.encoding.are_ascii.Given as goal

-- where it says so, the units so far are ASCII
abbrev pub invariant-loop-k : goal.invariant-loop-k
invariant-loop-k l = IsTrue l.all → (i : ℕ) → i < l.k → slice_index l.units i < 128
