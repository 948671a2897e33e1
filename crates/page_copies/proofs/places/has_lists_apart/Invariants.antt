use Rattle.std.proofs.Common.{ℕ, ◌<◌}
use Rattle.page_copies.specs.Places.{IsClearRun}
use Rattle.page_copies.proofs.places.has_lists_apart.Given as goal

abbrev pub invariant-loop-run : goal.invariant-loop-run
invariant-loop-run l = (k : ℕ) → k < l.run → IsClearRun l.kind l.page k
