use Rattle.std.proofs.Common.{◌≡◌, ℕ, ◌<◌, length, slice_index}
use Rattle.cfb_layout.specs.Sectors.{chain_start}
use Rattle.cfb_layout.proofs.chains.Chains.new.Given as goal

abbrev pub invariant-loop-count : goal.invariant-loop-count
invariant-loop-count l = record {
  len : length l.starts.items ≡ l.count-index;
  each : (i : ℕ) → i < length l.starts.items → slice_index l.starts.items i ≡ chain_start l.fn.counts.items i;
  all : l.total ≡ chain_start l.fn.counts.items l.count-index;
}
