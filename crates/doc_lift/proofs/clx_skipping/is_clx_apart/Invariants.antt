use Rattle.std.proofs.Common.{ℕ, ◌<◌}
use Rattle.doc_meaning.specs.Apart.{IsPartApart}
use Rattle.doc_lift.proofs.clx_skipping.is_clx_apart.Given as goal

abbrev pub invariant-loop-n : goal.invariant-loop-n
invariant-loop-n l = (m : ℕ) → m < l.n → IsPartApart l.from l.to l.early.pairs m
