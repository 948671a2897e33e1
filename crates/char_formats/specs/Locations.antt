-- The place in the stream `Data` that a character names.
use Rattle.std.specs.Prelude.{ℕ, ◌==◌, List, length, Option, Some, None, if◌then◌else◌}
use Rattle.std.specs.FinMap.{get}
use Rattle.doc_bits.specs.Number.{u32_at}
use Rattle.prop_map.specs.Settings.{Properties}

-- [MS-DOC] sprmCPicLocation: its operand has four bytes
-- Profile: a value of another length names no place
abbrev pub location_of : Option (List ℕ) → Option ℕ
location_of None = None
location_of (Some value) = if length value == 4 then Some (u32_at value 0) else None

-- Profile: of the properties of the character itself; styles name no place
abbrev pub location_in : Properties → Option ℕ
location_in direct = location_of (get direct 0x6A03)
