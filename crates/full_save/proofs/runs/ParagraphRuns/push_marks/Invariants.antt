use Rattle.full_save.proofs.ColumnRuns.{AreMarkedUpTo}
use Rattle.full_save.proofs.runs.ParagraphRuns.push_marks.Given as goal

abbrev pub invariant-loop-i : goal.invariant-loop-i
invariant-loop-i l = AreMarkedUpTo l.mark l.count l.start l.i l.initial.self l.self
