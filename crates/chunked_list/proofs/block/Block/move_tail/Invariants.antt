use Rattle.std.proofs.Common.{◌≡◌, ◌+◌, ◌++◌, length}
use Rattle.chunked_list.proofs.block.Block.move_tail.Given as goal

-- items went from one to the other
abbrev pub invariant-loop-turn : goal.invariant-loop-turn
invariant-loop-turn g l = record {
  joined : l.self ++ l.next ≡ l.initial.self ++ l.initial.next;
  mine : length l.self + l._turn ≡ length l.initial.self;
  other : length l.next ≡ length l.initial.next + l._turn;
}
