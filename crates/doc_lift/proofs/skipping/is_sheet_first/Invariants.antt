use Rattle.std.proofs.Common.{ℕ, ◌<◌}
use Rattle.doc_meaning.specs.Skipped.{StandsBehind}
use Rattle.doc_lift.proofs.skipping.is_sheet_first.Given as goal

abbrev pub invariant-loop-n : goal.invariant-loop-n
invariant-loop-n l = (m : ℕ) → m < l.n → StandsBehind l.early.pairs l.to m
