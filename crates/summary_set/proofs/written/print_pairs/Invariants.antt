use Rattle.std.proofs.Common.{◌≡◌, ◌++◌, ◌+◌, take}
use Rattle.std.specs.Prelude.{sum_by}
use Rattle.summary_set.specs.Written.{first_offset, padded_len, pair_bytes}
use Rattle.summary_set.proofs.written.print_pairs.Given as goal

-- the pairs so far, and where the next value is
abbrev pub invariant-loop-property : goal.invariant-loop-property
invariant-loop-property l = record {
  offset : l.offset ≡ first_offset l.values + sum_by padded_len (take l.property-index l.values);
  printed : l.bytes ≡ l.initial.bytes ++ pair_bytes (first_offset l.values) (take l.property-index l.values);
}
