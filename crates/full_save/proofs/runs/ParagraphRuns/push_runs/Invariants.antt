use Rattle.doc_columns.specs.Attached.{attached_of}
use Rattle.full_save.specs.RunsSoFar.{AreParagraphsSoFar}
use Rattle.full_save.proofs.ColumnRuns.{IsWalked}
use Rattle.full_save.proofs.runs.ParagraphRuns.push_runs.Given as goal

abbrev pub invariant-loop-run : goal.invariant-loop-run
invariant-loop-run l = IsWalked AreParagraphsSoFar attached_of l.runs l.start l.run-index l.at l.initial.self l.self
