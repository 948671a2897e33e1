-- Units that are characters.
use Rattle.std.proofs.Common.{◌≡◌, ◌∙◌, ℕ, Bool, true, false, ◌&&◌, List, [], ◌∷◌, ◌++◌, Option, Some, None, refl, arith}
use Rattle.std.specs.Prelude.{if◌then◌else◌, nat_le, nat_lt, slice_range}
use Rattle.std.specs.Char.{IsScalar}
use Rattle.std.proofs.lemmas.Bool.Decides.{nat_tests}
use Rattle.text_codes.specs.Shown.{is_pair, pair_code}
use Rattle.glyph_units.specs.Units.{alone, first_text, unit_half, unit_text}
use Rattle.text_codes.specs.Halves.{replacement, is_high, is_surrogate, half_text, first_half}
use Rattle.std.proofs.Common.{◌-◌, drop}
use Rattle.std.specs.List.{All}
use Rattle.std.proofs.lemmas.List.Elements.{All-drop, All-take}

scalar_high : (unit : ℕ) → IsScalar unit → is_high unit ≡ false
scalar_high unit scalar = grind (arith, nat_tests)

scalar_surrogate : (unit : ℕ) → IsScalar unit → is_surrogate unit ≡ false
scalar_surrogate unit scalar = grind (arith, nat_tests)

scalar_low : (unit : ℕ) → IsScalar unit → (nat_le 0xDC00 unit && nat_lt unit 0xE000) ≡ false
scalar_low unit scalar = grind (arith, nat_tests)

both_off : (a b : Bool) → (a && (b && false)) ≡ false
both_off true true = refl
both_off true false = refl
both_off false b = refl

scalar_pair : (first unit : ℕ) → IsScalar unit → is_pair first unit ≡ false
scalar_pair first unit scalar =
    (λ i. nat_le 0xD800 first && (nat_lt first 0xDC00 && scalar_low unit scalar i))
    ∙ both_off (nat_le 0xD800 first) (nat_lt first 0xDC00)

first_scalar : (unit : ℕ) → IsScalar unit → first_text unit ≡ unit ∷ []
first_scalar unit scalar =
    let none : List ℕ = [] in
    λ i. if scalar_high unit scalar i then none else (if scalar_surrogate unit scalar i then replacement else unit) ∷ []

half_scalar : (unit : ℕ) → IsScalar unit → first_half unit ≡ None
half_scalar unit scalar =
    let none : Option ℕ = None in λ i. if scalar_high unit scalar i then Some unit else none

-- a unit that is a character represents it, behind a half that no other one follows
pub scalar_text : (half : Option ℕ) (unit : ℕ) → IsScalar unit → unit_text half unit ≡ half_text half ++ unit ∷ []
scalar_text None unit scalar = first_scalar unit scalar
scalar_text (Some first) unit scalar =
    λ i. if scalar_pair first unit scalar i then pair_code first unit ∷ [] else replacement ∷ [] ++ first_scalar unit
    scalar i

-- and nothing waits behind it
pub scalar_half : (half : Option ℕ) (unit : ℕ) → IsScalar unit → unit_half half unit ≡ None
scalar_half None unit scalar = half_scalar unit scalar
scalar_half (Some first) unit scalar =
    let none : Option ℕ = None in
    λ i. if scalar_pair first unit scalar i then none else half_scalar unit scalar i

pub range_scalars : (units : List ℕ) (from until : ℕ) → All IsScalar units → All IsScalar (slice_range units from until)
range_scalars units from until all = All-take IsScalar (until - from) (drop from units) (All-drop IsScalar from units
    all)
