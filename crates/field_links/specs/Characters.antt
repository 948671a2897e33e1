-- The characters of units of UTF-16.
use Rattle.std.specs.Prelude.{ℕ, nat_lt, Bool, true, not, ◌&&◌, List, [], ◌∷◌, if◌then◌else◌}
use Rattle.text_codes.specs.Shown.{is_pair, pair_code}
use Rattle.text_codes.specs.Halves.{is_surrogate}

-- a unit in no pair
abbrev pub character_alone : ℕ → ℕ
character_alone unit = if is_surrogate unit then 0xFFFD else unit

-- each pair is its character, each other surrogate U+FFFD
unfoldable pub characters : List ℕ → List ℕ
characters [] = []
characters (unit ∷ []) = character_alone unit ∷ []
characters (first ∷ second ∷ rest) =
    if is_pair first second then pair_code first second ∷ characters rest else character_alone first ∷ characters
    (second ∷ rest)

-- a unit of 16 bits that is no surrogate
abbrev pub is_bmp_scalar : ℕ → Bool
is_bmp_scalar unit = nat_lt unit 0x10000 && not (is_surrogate unit)

-- units without a surrogate in no pair
unfoldable pub is_utf16 : List ℕ → Bool
is_utf16 [] = true
is_utf16 (unit ∷ []) = is_bmp_scalar unit
is_utf16 (first ∷ second ∷ rest) =
    if is_pair first second then is_utf16 rest else is_bmp_scalar first && is_utf16 (second ∷ rest)
