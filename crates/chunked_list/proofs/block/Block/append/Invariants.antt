use Rattle.std.proofs.Common.{◌≡◌, ◌+◌, ◌++◌, length, take}
use Rattle.chunked_list.proofs.block.Block.append.Given as goal

-- so many items are put
abbrev pub invariant-loop-i : goal.invariant-loop-i
invariant-loop-i g l = record {
  items : l.self ≡ l.initial.self ++ take l.i l.items;
  long : length l.self ≡ length l.initial.self + l.i;
}
