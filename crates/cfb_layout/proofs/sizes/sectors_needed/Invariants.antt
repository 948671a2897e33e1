use Rattle.std.proofs.Common.{◌≡◌, ◌≤◌, take, sum}
use Rattle.cfb_layout.specs.Counts.{large_counts, mini_counts}
use Rattle.cfb_layout.proofs.sizes.sectors_needed.Given as goal

abbrev pub invariant-loop-len : goal.invariant-loop-len
invariant-loop-len l = record {
  large_are : l.large ≡ sum (large_counts (take l.len-index l.lengths));
  minis_are : l.minis ≡ sum (mini_counts (take l.len-index l.lengths));
  large_few : l.large ≤ sum (take l.len-index l.lengths);
  minis_few : l.minis ≤ sum (take l.len-index l.lengths);
}
