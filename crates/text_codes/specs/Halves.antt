-- Halves of characters, which are units of which two are a character.
use Rattle.std.specs.Prelude.{ℕ, nat_le, nat_lt, Bool, ◌&&◌, List, [], ◌∷◌, Option, None, Some}
use Rattle.std.specs.Prelude.{if◌then◌else◌}

abbrev pub replacement : ℕ
replacement = 0xFFFD

-- the first half of a character
abbrev pub is_high : ℕ → Bool
is_high unit = nat_le 0xD800 unit && nat_lt unit 0xDC00

abbrev pub is_surrogate : ℕ → Bool
is_surrogate unit = nat_le 0xD800 unit && nat_lt unit 0xE000

-- a half that no other one follows
abbrev pub half_text : Option ℕ → List ℕ
half_text None = []
half_text (Some unit) = replacement ∷ []

abbrev pub first_half : ℕ → Option ℕ
first_half unit = if is_high unit then Some unit else None
