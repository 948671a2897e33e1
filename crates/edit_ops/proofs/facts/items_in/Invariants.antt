use Rattle.std.proofs.Common.{◌≡◌, length}
use Rattle.std.specs.Prelude.{slice_range}
use Rattle.std.specs.List.{sum_by}
use Rattle.edit_ops.proofs.facts.items_in.Given as goal

-- the items of the texts so far
abbrev pub invariant-loop-k : goal.invariant-loop-k
invariant-loop-k l = l.count ≡ sum_by length (slice_range l.texts l.from l.k)
