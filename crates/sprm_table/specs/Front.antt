-- What is at the front of a list of sprms.
use Rattle.std.specs.Prelude.{ℕ, List}
use Rattle.sprm_table.specs.declared.lists.Step.{Step}
use Rattle.sprm_table.specs.declared.lists.Step.TheVariants as step
use Rattle.sprm_table.specs.Sprm.{EndsSprmList, IsShortPrl}
use Rattle.sprm_table.specs.Cursor.{IsPrlAt}

-- the list ends, an operand leaves it, or an entry is there
abbrev pub IsStep : List ℕ → Step → Type 0
IsStep bytes step.End = EndsSprmList bytes
IsStep bytes step.Short = IsShortPrl bytes
IsStep bytes (step.Prl code from to) = IsPrlAt bytes 0 code.0 from to
