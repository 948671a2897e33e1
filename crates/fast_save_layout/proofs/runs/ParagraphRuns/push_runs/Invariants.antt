use Rattle.std.proofs.Common.{◌≡◌}
use Rattle.doc_columns.specs.Attached.{attached_of}
use Rattle.full_save.proofs.Public.{IsWalked}
use Rattle.fast_save_layout.specs.RunsSoFar.{AreMarksSoFar}
use Rattle.fast_save_layout.proofs.runs.ParagraphRuns.push_runs.Given as goal

abbrev pub invariant-loop-run : goal.invariant-loop-run
invariant-loop-run l =
    IsWalked AreMarksSoFar attached_of l.runs l.begin l.run-index l.at l.initial.self l.self
    × (l.self.start ≡ l.initial.self.start)
