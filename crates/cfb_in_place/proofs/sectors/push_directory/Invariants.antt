use Rattle.std.proofs.Common.{◌≡◌, ◌++◌, ◌+◌, ◌*◌, slice_range}
use Rattle.std.specs.List.{flat_map, range_with_len}
use Rattle.cfb_in_place.specs.Sources.{entry_after}
use Rattle.cfb_in_place.proofs.sectors.push_directory.Given as goal

abbrev pub invariant-loop-k : goal.invariant-loop-k
invariant-loop-k l = l.out ≡ l.fn.out ++ flat_map (λ k. entry_after l.grown l.table (l.first + k)
    (slice_range l.bytes (128 * k) (128 * k + 128))) (range_with_len 0 l.k)
