use Rattle.std.proofs.Common.{◌≡◌, None, take}
use Rattle.std.specs.Prelude.{find, ◌==◌}
use Rattle.summary_set.proofs.set.PropertySet.pair_with.Given as goal

-- no pair so far has the id
abbrev pub invariant-loop-i : goal.invariant-loop-i
invariant-loop-i l = find (λ pair. pair.id == l.id) (take l.i l.self.pairs.items) ≡ None
