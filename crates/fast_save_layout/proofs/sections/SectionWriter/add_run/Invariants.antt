use Rattle.fast_save_layout.proofs.PlannedRuns.{ArePlannedIn}
use Rattle.fast_save_layout.proofs.sections.SectionWriter.add_run.Given as goal

abbrev pub invariant-loop-cp : goal.invariant-loop-cp
invariant-loop-cp l =
    ArePlannedIn l.run.value l.place l.run.count l.plan l.cp (record {
      number = l.initial.self.number;
      start = l.initial.self.start;
      out = l.initial.out;
      seds = l.initial.self.seds;
    }) (record { number = l.self.number; start = l.self.start; out = l.out; seds = l.self.seds })
