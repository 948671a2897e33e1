use Rattle.std.proofs.Common.{◌≡◌, ℕ, ◌<◌, slice_index}
use Rattle.cfb_directory.specs.Directory.{upper_case}
use Rattle.cfb_streams.proofs.list.name_before.Given as goal

abbrev pub invariant-loop-i : goal.invariant-loop-i
invariant-loop-i l = (k : ℕ) → k < l.i → upper_case (slice_index l.name k) ≡ upper_case (slice_index l.other k)
