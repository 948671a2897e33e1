use Rattle.std.proofs.Common.{◌≡◌, ◌+◌, take}
use Rattle.std.specs.Prelude.{sum_by}
use Rattle.summary_set.specs.Written.{first_offset, padded_len}
use Rattle.summary_set.proofs.written.size_of_set.Given as goal

-- the pairs, and the values so far
abbrev pub invariant-loop-property : goal.invariant-loop-property
invariant-loop-property l = l.size ≡ first_offset l.values + sum_by padded_len (take l.property-index l.values)
