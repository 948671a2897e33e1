use Rattle.std.proofs.Common.{ℕ, ◌<◌}
use Rattle.page_copies.specs.Places.{IsApartFrom}
use Rattle.page_copies.proofs.places.is_clear.Given as goal

abbrev pub invariant-loop-other : goal.invariant-loop-other
invariant-loop-other l = (run : ℕ) → run < l.other → IsApartFrom l.kind l.page l.place run
