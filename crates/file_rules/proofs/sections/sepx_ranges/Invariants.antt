use Rattle.std.specs.List.{All}
use Rattle.file_rules.specs.SectionRules.{IsSepxRange}
use Rattle.file_rules.proofs.sections.sepx_ranges.Given as goal

abbrev pub invariant-loop-k : goal.invariant-loop-k
invariant-loop-k l = All (IsSepxRange l.wd) l.ranges.items
