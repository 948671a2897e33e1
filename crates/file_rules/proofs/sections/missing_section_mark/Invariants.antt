use Rattle.std.proofs.Common.{ℕ, ◌<◌}
use Rattle.fib_form.specs.declared.stories.StoryKind.TheVariants.{Main}
use Rattle.file_rules.specs.Source.{story_units}
use Rattle.file_rules.specs.SectionRules.{BeginsElsewhere}
use Rattle.file_rules.proofs.sections.missing_section_mark.Given as goal

-- the sections so far begin after a section mark
abbrev pub invariant-loop-k : goal.invariant-loop-k
invariant-loop-k l = (k : ℕ) → k < l.k → ¬ (BeginsElsewhere (story_units l.source Main) l.list k)
