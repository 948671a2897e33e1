use Rattle.std.proofs.Common.{◌≡◌, length, take, map}
use Rattle.chunked_list.proofs.block.write_lengths.Given as goal

-- so many lengths are told
abbrev pub invariant-loop-i : goal.invariant-loop-i
invariant-loop-i g l = record {
  before : take l.i l.lens.sums ≡ take l.i (map g.T.Measured.units l.items.items);
  long : length l.lens.sums ≡ length l.initial.lens.sums;
}
