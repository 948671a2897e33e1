use Rattle.std.proofs.Common.{◌<◌, ℕ}
use Rattle.cfb_in_place.specs.Contract.{IsNamed}
use Rattle.cfb_in_place.proofs.allowed.has_named.Given as goal

abbrev pub invariant-loop-i : goal.invariant-loop-i
invariant-loop-i l = (j : ℕ) → j < l.i → ¬ IsNamed l.container j l.name
