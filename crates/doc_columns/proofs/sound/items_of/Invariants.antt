use Rattle.std.proofs.Common.{◌≡◌, ◌*◌, ◌^◌, ◌-◌, ◌≤◌, length, take}
use Rattle.std.specs.List.{sum_by}
use Rattle.doc_columns.proofs.sound.items_of.Given as goal

-- the items of the texts so far
abbrev pub invariant-loop-k : goal.invariant-loop-k
invariant-loop-k l = record {
  count : l.count ≡ sum_by length (take l.k l.texts);
  few : l.count ≤ l.k * (2 ^ 32 - 1);
}
