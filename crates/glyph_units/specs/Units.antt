-- Units of UTF-16 one by one: a first half waits for the second one, and without it is the replacement character.
use Rattle.std.specs.Prelude.{ℕ, List, [], ◌∷◌, ◌++◌, Option, None, Some, if◌then◌else◌}
use Rattle.text_codes.specs.Shown.{is_pair, pair_code}
use Rattle.text_codes.specs.Halves.{replacement, is_high, is_surrogate, half_text, first_half}

-- the character of a unit that is in no pair
abbrev pub alone : ℕ → ℕ
alone unit = if is_surrogate unit then replacement else unit

-- a unit that no half waits for
abbrev pub first_text : ℕ → List ℕ
first_text unit = if is_high unit then [] else alone unit ∷ []

-- a unit where a half waits or none
abbrev pub unit_text : Option ℕ → ℕ → List ℕ
unit_text None unit = first_text unit
unit_text (Some first) unit =
    if is_pair first unit then pair_code first unit ∷ [] else replacement ∷ [] ++ first_text unit

-- what waits behind it
abbrev pub unit_half : Option ℕ → ℕ → Option ℕ
unit_half None unit = first_half unit
unit_half (Some first) unit = if is_pair first unit then None else first_half unit

-- units one behind the other, where a half waits before them or none
abbrev pub units_text : Option ℕ → List ℕ → List ℕ
units_text half [] = half_text half
units_text half (unit ∷ units) = unit_text half unit ++ units_text (unit_half half unit) units
