-- How style numbers go on where the slots of two documents are one behind the other.
use Rattle.std.specs.Prelude.{ℕ, ◌+◌, nat_lt, if◌then◌else◌, Option, Some, None, length}
use Rattle.style_sheet.specs.Sheet.{Sheet}
use Rattle.doc_join.specs.declared.renumbering.Renumbering.{Renumbering}

-- the number that names no style: there are at most 4,094 slots
abbrev pub no_style : ℕ
no_style = 0xFFFF

-- a style number of a document, whose slots are behind others. Profile: one beyond its own sheet named nothing, and
-- it names nothing afterwards
abbrev pub renumbered_style : Renumbering → ℕ → ℕ
renumbered_style numbers istd = if nat_lt istd numbers.slots then istd + numbers.before else no_style

-- the base of a style: where it was beyond the sheet there is none
abbrev pub base_behind : Renumbering → Option ℕ → Option ℕ
base_behind numbers None = None
base_behind numbers (Some base) = if nat_lt base numbers.slots then Some (base + numbers.before) else None

-- the style of the next paragraph: where it was beyond the sheet it is the style's own number
abbrev pub renumbered_next : Renumbering → ℕ → ℕ → ℕ
renumbered_next numbers istd next = (if nat_lt next numbers.slots then next else istd) + numbers.before

-- nothing is before the slots of the first document
abbrev pub numbers_of_first : Sheet → Renumbering
numbers_of_first first = record { before = 0; slots = length first.styles }

-- the slots of the second are behind those of the first
abbrev pub numbers_of_second : Sheet → Sheet → Renumbering
numbers_of_second first second = record { before = length first.styles; slots = length second.styles }

-- the number that a style of the first document has afterwards, and that of a style of the second
abbrev pub style_in_first : Sheet → ℕ → ℕ
style_in_first first = renumbered_style (numbers_of_first first)

abbrev pub style_in_second : Sheet → Sheet → ℕ → ℕ
style_in_second first second = renumbered_style (numbers_of_second first second)
