use Rattle.file_rules.specs.SectionRules.{AreJudgedSepxs}
use Rattle.file_rules.proofs.sections.walked_sepxs.Given as goal

abbrev pub invariant-loop-range : goal.invariant-loop-range
invariant-loop-range l = AreJudgedSepxs l.wd l.judged.places l.judged.faults.items
