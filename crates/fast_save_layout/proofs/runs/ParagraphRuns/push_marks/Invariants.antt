use Rattle.std.proofs.Common.{◌≡◌}
use Rattle.fast_save_layout.proofs.MarkRunSteps.{AreMarkedUpTo}
use Rattle.fast_save_layout.proofs.runs.ParagraphRuns.push_marks.Given as goal

abbrev pub invariant-loop-i : goal.invariant-loop-i
invariant-loop-i l =
    AreMarkedUpTo l.mark l.count l.at l.i l.initial.self l.self × (l.self.start ≡ l.initial.self.start)
