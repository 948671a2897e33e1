use Rattle.doc_bits.specs.Rules.{LeastOrNone, Among}
use Rattle.file_rules.specs.SectionRules.{HasSepxFault, section_fc, AreJudgedSepxs}
use Rattle.file_rules.proofs.sections.sepx_fault.Given as goal

-- it is the least place of the sections so far
abbrev pub invariant-loop-k : goal.invariant-loop-k
invariant-loop-k l = record {
  least : LeastOrNone (Among l.k (λ k. HasSepxFault l.source.wd (section_fc l.list k))) l.least;
  judged : AreJudgedSepxs l.wd l.judged.places l.judged.faults.items;
}
