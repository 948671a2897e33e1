use Rattle.std.proofs.Common.{◌≡◌, ◌≤◌, ◌-◌, length}
use Rattle.file_rules.specs.EndSearch.{BeginUpTo, HasNoneIn, ends_at}
use Rattle.file_rules.proofs.paragraph_ends.next_end.Given as goal

-- no paragraph ends so far
abbrev pub invariant-loop-cp : goal.invariant-loop-cp
invariant-loop-cp l = record {
  behind : l.from ≤ l.cp;
  within : l.cp ≤ length l.units;
  none : HasNoneIn (ends_at l.units l.fn.ends.sections.now l.fn.ends.main_len) l.from l.cp;
  met : BeginUpTo l.ends.sections.now l.ends.met l.cp;
  same : l.ends.sections.now ≡ l.fn.ends.sections.now;
  main : l.ends.main_len ≡ l.fn.ends.main_len;
}

abbrev pub decreases-loop-cp : goal.decreases-loop-cp
decreases-loop-cp l = length l.units - l.cp
