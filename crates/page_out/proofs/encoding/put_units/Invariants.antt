use Rattle.std.proofs.Common.{◌≡◌, ◌-◌, ◌≤◌, ◌++◌, length, take}
use Rattle.std.specs.Prelude.{encode_utf8_all}
use Rattle.page_out.proofs.encoding.put_units.Given as goal

-- the bytes of the units so far are behind the first bytes
abbrev pub invariant-loop-count : goal.invariant-loop-count
invariant-loop-count l = record {
  long : length l.block ≡ length l.fn.block;
  inside : l.count ≤ l.most;
  room : l.end ≤ length l.block;
  start : l.count ≡ 0 → l.end ≡ l.len;
  bytes : take l.end l.block ≡ take l.len l.fn.block ++ encode_utf8_all (take l.count l.units);
}

abbrev pub decreases-loop-count : goal.decreases-loop-count
decreases-loop-count l = l.most - l.count
