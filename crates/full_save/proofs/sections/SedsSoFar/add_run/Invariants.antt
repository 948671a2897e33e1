use Rattle.full_save.proofs.ColumnSections.{AreEndedIn}
use Rattle.full_save.proofs.sections.SedsSoFar.add_run.Given as goal

abbrev pub invariant-loop-cp : goal.invariant-loop-cp
invariant-loop-cp l =
    AreEndedIn l.run.value l.place l.run.count l.base l.cp
    (record { start = l.initial.self.start; out = l.initial.out; seds = l.initial.self.seds })
    (record { start = l.self.start; out = l.out; seds = l.self.seds })
