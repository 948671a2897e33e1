use Rattle.std.proofs.Common.{◌≡◌, ◌-◌, length}
use Rattle.file_rules.specs.EndSearch.{BeginUpTo}
use Rattle.file_rules.proofs.paragraph_ends.SectionEnds.behind.Given as goal

-- the sections that are met
abbrev pub invariant-loop-self : goal.invariant-loop-self
invariant-loop-self l = record {
  met : BeginUpTo l.self.sections.now l.self.met l.cp;
  same : l.self.sections.now ≡ l.fn.self.sections.now;
  main : l.self.main_len ≡ l.fn.self.main_len;
}

abbrev pub decreases-loop-self : goal.decreases-loop-self
decreases-loop-self l = length l.self.sections.now - l.self.met
