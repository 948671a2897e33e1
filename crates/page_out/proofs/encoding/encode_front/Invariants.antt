use Rattle.std.proofs.Common.{◌≡◌, ◌-◌, ◌≤◌, length, take}
use Rattle.std.specs.Prelude.{encode_utf8_all}
use Rattle.page_out.proofs.encoding.encode_front.Given as goal

-- the bytes of the units so far are at the front of the block
abbrev pub invariant-loop-count : goal.invariant-loop-count
invariant-loop-count l = record {
  long : length l.block ≡ length l.fn.block;
  inside : l.count ≤ length l.units;
  room : l.len ≤ length l.block;
  start : l.count ≡ 0 → l.len ≡ 0;
  bytes : take l.len l.block ≡ encode_utf8_all (take l.count l.units);
}

abbrev pub decreases-loop-count : goal.decreases-loop-count
decreases-loop-count l = length l.units - l.count
