-- The characters of signs.
use Rattle.std.proofs.Common.{◌≡◌, ◌⊎◌, inl, inr, refl, sym, subst, ℕ, zero, suc, ◌-◌, ◌<◌, ◌==◌, Bool, true, false, not}
use Rattle.std.proofs.Common.{◌&&◌, ◌||◌, List, [], ◌∷◌, Option, Some, None, arith}
use Rattle.std.specs.Prelude.{nat_le, nat_lt, if◌then◌else◌, slice_index}
use Rattle.std.proofs.lemmas.Bool.{and_parts, eqb-true, lt-ltb, ltb-true}
use Rattle.std.proofs.lemmas.Bool.Decides.{nat_tests}
use Rattle.symbol_fonts.specs.declared.characters.SymbolFont.{SymbolFont}
use Rattle.symbol_fonts.specs.declared.characters.SymbolFont.TheVariants.{Symbol, Wingdings, Wingdings2}
use Rattle.symbol_fonts.specs.declared.characters.SymbolFont.TheVariants.{Wingdings3, Webdings, Dingbats}
use Rattle.symbol_fonts.specs.Characters.{IsShownAs, character_of, font_characters, is_sign, shown_in, shown_unit}
use Rattle.symbol_fonts.specs.Laws.{IsCharacter, SignsAreCharacters, UnitsAreShown}
use Rattle.doc_bits.proofs.Public.{not_true, not_zero}

-- what is no sign is shown as itself
pub sign_none : (font : Option SymbolFont) (unit : ℕ) → is_sign unit ≡ false → shown_unit font unit ≡ unit
sign_none None unit off = refl
sign_none (Some font) unit off = λ i.
    if (if off i then slice_index (font_characters font) (unit - 0xF020) else 0) == 0 then unit else
    if off i then slice_index (font_characters font) (unit - 0xF020) else 0

-- ---- each of the tables has characters

-- none, or a character
abbrev is_valid : ℕ → Bool
is_valid code =
    code == 0 || (nat_le 0x20 code && (nat_lt code 0xD800 && not (nat_le 0x7F code && nat_le code 0x9F)))

abbrev are_valid : List ℕ → Bool
are_valid [] = true
are_valid (code ∷ codes) = is_valid code && are_valid codes

tables_right : (font : SymbolFont) → are_valid (font_characters font) ≡ true
tables_right Symbol = refl
tables_right Wingdings = refl
tables_right Wingdings2 = refl
tables_right Wingdings3 = refl
tables_right Webdings = refl
tables_right Dingbats = refl

right_at : (codes : List ℕ) (k : ℕ) → are_valid codes ≡ true → is_valid (slice_index codes k) ≡ true
right_at [] k e = refl
right_at (code ∷ codes) zero e = (and_parts (is_valid code) (are_valid codes) e).0
right_at (code ∷ codes) (suc k) e = right_at codes k (and_parts (is_valid code) (are_valid codes) e).1

character_right : (font : SymbolFont) (unit : ℕ) → is_valid (character_of font unit) ≡ true
character_right font unit =
    elim (is_sign unit)
    as (λ b. is_valid (if b then slice_index (font_characters font) (unit - 0xF020) else 0) ≡ true) [
      | true ↦ right_at (font_characters font) (unit - 0xF020) (tables_right font)
      | false ↦ refl
    ]

or_second : (one other : Bool) → one ≡ false → (one || other) ≡ true → other ≡ true
or_second true other off e = absurd (cc (off))
or_second false other off e = e

pub not_below : (code : ℕ) → nat_le 0x20 code ≡ true → nat_lt code 0x20 ≡ false
not_below code high = grind (arith, nat_tests)

right_character : (code : ℕ) → 0 < code → is_valid code ≡ true → IsCharacter code
right_character code some right =
    let windows = nat_le 0x7F code && nat_le code 0x9F in
    let all = or_second (code == 0) (nat_le 0x20 code && (nat_lt code 0xD800 && not windows)) (not_zero code some) right in
    let text = and_parts (nat_le 0x20 code) (nat_lt code 0xD800 && not windows) all in
    let rest = and_parts (nat_lt code 0xD800) (not windows) text.1 in
    let low : code < 0xD800 = ltb-true code 0xD800 rest.0 in
    record {
      scalar = rw (lt-ltb code 0xD800 low) refl;
      unit = omega (arith, low);
      plain = λ i. not_below code text.0 i || not_true windows rest.1 i;
    }

pub characters_right : SignsAreCharacters
characters_right font unit character shown =
    right_character character shown.some
    (subst (λ code. is_valid code ≡ true) (sym shown.is) (character_right font unit))

some_character : (code : ℕ) → (code == 0) ≡ false → 0 < code
some_character code off = grind (arith, nat_tests)

shown_by : (font : SymbolFont) (unit : ℕ) (none : Bool) → (character_of font unit == 0) ≡ none →
    IsShownAs font unit (shown_in font unit)
    ⊎ (((character : ℕ) → ¬ IsShownAs font unit character) × (shown_in font unit ≡ unit))
shown_by font unit true is =
    let zero : character_of font unit ≡ 0 = eqb-true (character_of font unit) 0 is in
    inr (
      (λ character shown. absurd (omega (arith, shown.some, shown.is, zero))),
      (λ i. if is i then unit else character_of font unit),
    )
shown_by font unit false is =
    inl (subst (λ code. IsShownAs font unit code) (sym (λ i. if is i then unit else character_of font unit)) (record {
      some = some_character (character_of font unit) is;
      is = refl;
    }))

pub units_right : UnitsAreShown
units_right font unit = shown_by font unit (character_of font unit == 0) refl
