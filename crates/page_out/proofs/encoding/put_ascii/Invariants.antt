use Rattle.std.proofs.Common.{◌≡◌, ◌+◌, ◌++◌, length, take}
use Rattle.page_out.proofs.encoding.put_ascii.Given as goal

-- the first units of the part are behind the first bytes
abbrev pub invariant-loop-k : goal.invariant-loop-k
invariant-loop-k l = record {
  long : length l.block ≡ length l.fn.block;
  bytes : take (l.len + l.k) l.block ≡ take l.len l.fn.block ++ take l.k l.units;
}
