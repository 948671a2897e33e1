-- What the definitions imply.
use Rattle.std.specs.Prelude.{◌≡◌, ◌⊎◌, ℕ, ◌<◌, Bool, false, ◌||◌, ◌&&◌, nat_le, nat_lt}
use Rattle.std.specs.Char.{IsScalar}
use Rattle.symbol_fonts.specs.declared.characters.SymbolFont.{SymbolFont}
use Rattle.symbol_fonts.specs.Characters.{IsShownAs, shown_in}

abbrev pub is_control : ℕ → Bool
is_control code = nat_lt code 0x20 || (nat_le 0x7F code && nat_le code 0x9F)

-- a character of one unit that drives no terminal
pub record IsCharacter (code : ℕ) : Type 0 where
  pub scalar : IsScalar code
  pub unit : code < 0x10000
  pub plain : is_control code ≡ false

abbrev pub SignsAreCharacters : Type 0
SignsAreCharacters = (font : SymbolFont) (unit character : ℕ) → IsShownAs font unit character → IsCharacter character

-- a unit is shown as its character, or it has none and is itself
abbrev pub UnitsAreShown : Type 0
UnitsAreShown =
    (font : SymbolFont) (unit : ℕ) →
    IsShownAs font unit (shown_in font unit)
    ⊎ (((character : ℕ) → ¬ IsShownAs font unit character) × (shown_in font unit ≡ unit))
