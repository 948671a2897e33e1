use Rattle.std.specs.Prelude.{nat_lt, map, filter}
use Rattle.std.specs.List.{range_with_len}
use Rattle.std.proofs.Common.{◌≡◌, ◌++◌}
use Rattle.fast_save_layout.specs.KeptBins.{bin_of}
use Rattle.fast_save_layout.proofs.kept_bins.keep_bins.Given as goal

abbrev pub invariant-loop-k : goal.invariant-loop-k
invariant-loop-k l =
    l.bins ≡ l.fn.bins ++ filter (λ bin. nat_lt bin.first l.before) (map (bin_of l.table) (range_with_len 0 l.k))
