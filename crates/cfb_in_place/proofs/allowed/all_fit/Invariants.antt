use Rattle.std.proofs.Common.{◌<◌, ℕ}
use Rattle.cfb_in_place.specs.Contract.{FitsChange}
use Rattle.cfb_in_place.proofs.allowed.all_fit.Given as goal

abbrev pub invariant-loop-i : goal.invariant-loop-i
invariant-loop-i l = (j : ℕ) → j < l.i → FitsChange l.container l.change j
