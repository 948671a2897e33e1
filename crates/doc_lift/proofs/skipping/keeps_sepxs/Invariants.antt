use Rattle.std.proofs.Common.{ℕ, ◌<◌}
use Rattle.doc_meaning.specs.Skipped.{KeepsSepx, fc_sepx}
use Rattle.doc_lift.proofs.skipping.keeps_sepxs.Given as goal

abbrev pub invariant-loop-k : goal.invariant-loop-k
invariant-loop-k l = (m : ℕ) → m < l.k → KeepsSepx l.old l.new (fc_sepx l.sections m)
