-- The rules that are checked style by style, as the code names them.
use Rattle.std.specs.Prelude.{ℕ}
use Rattle.style_sheet.specs.Sheet.{Sheet}
use Rattle.plain_doc.specs.declared.rules_sheet.StyleRule.{StyleRule}
use Rattle.plain_doc.specs.declared.rules_sheet.StyleRule.TheVariants.{Properties, Written}
use Rattle.plain_doc.specs.RulesOfSheet.{HasShortStyle, FitsStd}

-- the style of this number, where there is one, is right by this rule
abbrev pub IsValidStyle : StyleRule → Sheet → ℕ → Type 0
IsValidStyle Properties sheet istd = HasShortStyle sheet istd
IsValidStyle Written sheet istd = FitsStd sheet istd

abbrev pub IsWrongStyle : StyleRule → Sheet → ℕ → Type 0
IsWrongStyle rule sheet istd = ¬ (IsValidStyle rule sheet istd)
