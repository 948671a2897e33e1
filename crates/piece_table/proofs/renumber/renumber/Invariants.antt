use Rattle.std.proofs.Common.{◌≡◌, ◌++◌, map, take, drop, vec_len, vec_capacity}
use Rattle.std.specs.Prelude.{slice_range}
use Rattle.piece_table.specs.Cuts.{renumbered_entry}
use Rattle.piece_table.proofs.renumber.renumber.Given as goal

-- the entries of the range before this one have new numbers
abbrev pub invariant-loop-k : goal.invariant-loop-k
invariant-loop-k l = record {
  items : l.entries.items ≡ take l.first l.initial.entries.items ++ (map (renumbered_entry l.numbers) (slice_range
      l.initial.entries.items l.first l.k) ++ drop l.k l.initial.entries.items);
  count : vec_len l.entries ≡ vec_len l.initial.entries;
  room : vec_capacity l.entries ≡ vec_capacity l.initial.entries;
}
