-- [MS-DOC] ToggleOperand: 0x80 keeps what the style has, 0x81 turns it round.
-- Profile: turning round makes 01 of nothing and of 00, and 00 of all else; any other value sets itself.
use Rattle.std.specs.Prelude.{ℕ, Bool, ◌==◌, ◌&&◌, List, [], ◌∷◌, length, slice_index, Option, Some, None}
use Rattle.std.specs.Prelude.{if◌then◌else◌}
use Rattle.std.specs.List.{fold}

-- the value is this one byte
abbrev pub is_byte : List ℕ → ℕ → Bool
is_byte value byte = length value == 1 && slice_index value 0 == byte

-- the value leaves what is there
abbrev pub is_keep : List ℕ → Bool
is_keep value = is_byte value 0x80

-- the value turns round what is there
abbrev pub is_turn : List ℕ → Bool
is_turn value = is_byte value 0x81

-- the opposite of the value so far, where there may be none
abbrev pub opposite : Option (List ℕ) → List ℕ
opposite None = 1 ∷ []
opposite (Some value) = if is_byte value 0 then 1 ∷ [] else 0 ∷ []

-- what one layer's value makes of the value so far
abbrev pub toggled : Option (List ℕ) → List ℕ → Option (List ℕ)
toggled before value = if is_keep value then before else if is_turn value then Some (opposite before) else Some value

-- what the layers' values make of a toggle: the first is laid over nothing, and each other one over those before it
abbrev pub toggle_value : List (List ℕ) → Option (List ℕ)
toggle_value values = fold toggled None values
