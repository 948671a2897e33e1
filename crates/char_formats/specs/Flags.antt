-- What values make of a property that is on or off.
use Rattle.std.specs.Prelude.{ℕ, ◌==◌, Bool, not, List, [], ◌∷◌, Some, slice_index, slice_index_or, if◌then◌else◌}
use Rattle.sprm_table.specs.Codes.{class_of}
use Rattle.effective_props.specs.Toggles.{is_keep, is_turn}
use Rattle.effective_props.specs.Values.{is_toggle}
use Rattle.char_formats.specs.declared.flag.Flag.{Flag}
use Rattle.char_formats.specs.declared.flag.Flag.TheVariants.{Keep, Turn, Set}
use Rattle.char_formats.specs.Formats.{is_nonzero_value}

-- the codes of such properties, ascending
abbrev pub flag_codes : List ℕ
flag_codes =
    0x0806 ∷ 0x080A ∷ 0x0835 ∷ 0x0836 ∷ 0x0837 ∷ 0x083A ∷ 0x083B ∷ 0x083C ∷ 0x0855 ∷ 0x0856 ∷ 0x2A3E ∷ 0x2A53 ∷ []

abbrev pub code_at : ℕ → ℕ
code_at i = slice_index flag_codes i

-- the change of the property with this number
abbrev pub flag_at : List Flag → ℕ → Flag
flag_at flags i = slice_index_or flags i Keep

-- whether it is on after the change
abbrev pub does : Flag → Bool → Bool
does Keep before = before
does Turn before = not before
does (Set on) before = on

-- one change and then another
abbrev pub flag_then : Flag → Flag → Flag
flag_then first Keep = first
flag_then Keep Turn = Turn
flag_then Turn Turn = Keep
flag_then (Set on) Turn = Set (not on)
flag_then first (Set on) = Set on

-- the change by a value of a toggle
abbrev pub toggle_flag : List ℕ → Flag
toggle_flag value = if is_keep value then Keep else if is_turn value then Turn else Set (is_nonzero_value (Some value))

-- the change by a value at a code
abbrev pub flag_by : ℕ → List ℕ → Flag
flag_by code value = if is_toggle (class_of code) then toggle_flag value else Set (is_nonzero_value (Some value))

-- the change at one code after a value at some code
abbrev pub flag_after : Flag → ℕ → ℕ → List ℕ → Flag
flag_after before own code value = if own == code then flag_then before (flag_by code value) else before
