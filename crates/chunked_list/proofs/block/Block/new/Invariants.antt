use Rattle.std.proofs.Common.{◌≡◌, ◌+◌, ◌≤◌, length}
use Rattle.chunked_list.proofs.block.Block.new.Given as goal

-- so many lengths are there, and there is room for the rest
abbrev pub invariant-loop-turn : goal.invariant-loop-turn
invariant-loop-turn g l = record {
  long : length l.lens.sums ≡ l.turn;
  room : 128 ≤ l.lens.spare + l.turn;
}
