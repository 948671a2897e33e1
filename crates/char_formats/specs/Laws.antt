-- What the definitions imply.
use Rattle.std.specs.Prelude.{◌≡◌, ℕ}
use Rattle.prop_map.specs.Settings.{Properties}
use Rattle.style_sheet.specs.Sheet.{Sheet}
use Rattle.style_sheet.specs.Chain.{style_kind_at, HasSoundBases}
use Rattle.char_formats.specs.declared.format.CharFormat.{CharFormat}
use Rattle.char_formats.specs.Formats.{IsCharFormat}

-- a character has one format
abbrev pub CharFormatIsOne : Type 0
CharFormatIsOne =
    (sheet : Sheet) (istd : ℕ) (direct : Properties) (one other : CharFormat) →
    IsCharFormat sheet istd direct one → IsCharFormat sheet istd direct other → one ≡ other

-- and it has one
abbrev pub CharFormatIsThere : Type 0
CharFormatIsThere =
    (sheet : Sheet) (istd : ℕ) (direct : Properties) → HasSoundBases sheet → style_kind_at sheet istd ≡ 1 →
    (format : CharFormat) × IsCharFormat sheet istd direct format
