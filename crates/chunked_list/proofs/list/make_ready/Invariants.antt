use Rattle.std.proofs.Common.{◌≡◌, ◌+◌, ◌-◌, ◌≤◌, length, [], List}
use Rattle.std.specs.List.{All}
use Rattle.chunked_list.proofs.list.make_ready.Given as goal

-- so many blocks are there, and all are empty
abbrev pub invariant-loop-turn : goal.invariant-loop-turn
invariant-loop-turn g l = record {
  empty : All (λ (block : List g.row.T.Denot). block ≡ []) l.ready.items;
  count : length l.ready.items ≡ l._turn;
  most : l._turn ≤ l.there + (l.n - l.there);
}
