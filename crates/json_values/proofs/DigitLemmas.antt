-- Digits in a text, and units of bytes, two bytes a step.
use Rattle.std.proofs.Common.{◌≡◌, ℕ, ◌+◌, ◌*◌, ◌<◌, ◌≤◌, List}
use Rattle.std.proofs.Common.{[], ◌∷◌, ◌++◌, length, get_or, take, drop, Option, Some}
use Rattle.std.proofs.Common.{None, refl, sym, ap, ◌∙◌, arith, append_assoc, ◌-◌, inl, inr}
use Rattle.std.proofs.Common.{append-nil}
use Rattle.std.specs.Prelude.{flat_map}
use Rattle.std.specs.Str.{IsUtf8}
use Rattle.std.proofs.lemmas.Str.Ascii.{IsAscii-cons, IsAscii-nil}
use Rattle.std.proofs.lemmas.Str.{IsUtf8-from_ascii}
use Rattle.std.specs.Option.{option_map}
use Rattle.std.proofs.lemmas.Bool.{ne_eqb, le-ltb, cases_lt}
use Rattle.std.proofs.lemmas.List.{drop_more, drop_all, take_more, take_all}
use Rattle.std.proofs.lemmas.Grind.{flat_map-append}
use Rattle.json.specs.Print.{escape, escape_byte, quoted}
use Rattle.text_codes.specs.Shown.{hex_digit}
use Rattle.json_values.specs.Digits.{units_of_bytes}
use Rattle.json_values.proofs.HexLemmas.{hex_small, hex_large}
use Rattle.edit_script.proofs.Public.{two}

-- ---- digits represent themselves in a text

pub plain_byte : (x : ℕ) → 48 ≤ x → (x ≡ 92 → ⊥) → escape_byte x ≡ x ∷ []
unfolding escape_byte
plain_byte x high apart =
    rw (
      ne_eqb x 34 (λ e. omega (arith, e, high)),
      ne_eqb x 92 apart,
      ne_eqb x 8 (λ e. omega (arith, e, high)),
      ne_eqb x 12 (λ e. omega (arith, e, high)),
      ne_eqb x 10 (λ e. omega (arith, e, high)),
      ne_eqb x 13 (λ e. omega (arith, e, high)),
      ne_eqb x 9 (λ e. omega (arith, e, high)),
      le-ltb x 32 (omega (arith, high)),
    )

-- a digit is written as it is
pub plain_digit : (n : ℕ) → n < 16 → escape_byte (hex_digit n) ≡ hex_digit n ∷ []
plain_digit n small = elim (cases_lt n 10) [
  | inl less ↦ let is = hex_small n less in plain_byte (hex_digit n) (omega (arith, is))
      (λ e. omega (arith, e, is, less))
  | inr more ↦ let is = hex_large n more in
      plain_byte (hex_digit n) (omega (arith, is, more)) (λ e. omega (arith, e, is, more))
]

-- the digits of one item more
pub more_digits : (digits : ℕ → List ℕ) (items : List ℕ) (i item : ℕ) → i < length items → item ≡ get_or items i 0 →
    (34 ∷ escape (flat_map digits (take i items))) ++ escape (digits item) ≡ 34 ∷ escape (flat_map digits (take (i + 1)
    items))
more_digits digits items i item within is =
    let one = ap (λ x. escape (digits x)) is ∙ ap escape (sym (append-nil (digits (get_or items i 0)))) in
    ap (λ later. (34 ∷ escape (flat_map digits (take i items))) ++ later) one
    ∙ ap (λ text. 34 ∷ text) (sym (flat_map-append escape_byte (flat_map digits (take i items)) (flat_map digits (get_or
    items i 0 ∷ []))))
    ∙ ap (λ text. 34 ∷ escape text) (sym (flat_map-append digits (take i items) (get_or items i 0 ∷ [])))
    ∙ ap (λ front. 34 ∷ escape (flat_map digits front)) (sym (take_more items i 0 within))

-- the digits of all items, with the mark at the end
pub all_digits : (digits : ℕ → List ℕ) (items : List ℕ) (i : ℕ) → length items ≤ i →
    (34 ∷ escape (flat_map digits (take i items))) ++ 34 ∷ [] ≡ quoted (flat_map digits items)
all_digits digits items i all = ap (λ front. quoted (flat_map digits front)) (take_all i items all)

-- four bytes below 128 are a text
pub four_are_utf8 : (a b c d : ℕ) → a < 128 → b < 128 → c < 128 → d < 128 → IsUtf8 (a ∷ b ∷ c ∷ d ∷ [])
four_are_utf8 a b c d la lb lc ld =
    IsUtf8-from_ascii (a ∷ b ∷ c ∷ d ∷ [])
    (IsAscii-cons a (b ∷ c ∷ d ∷ []) la (IsAscii-cons b (c ∷ d ∷ []) lb
    (IsAscii-cons c (d ∷ []) lc (IsAscii-cons d [] ld IsAscii-nil))))

-- ---- units of bytes

-- what is read when these units come before what is read of the rest
abbrev pub behind : List ℕ → Option (List ℕ) → Option (List ℕ)
behind units others = option_map (λ more. units ++ more) others

one_more : (units grown : List ℕ) (unit : ℕ) → grown ≡ units ++ unit ∷ [] → (others : Option (List ℕ)) →
    behind units (option_map (λ more. unit ∷ more) others) ≡ behind grown others
one_more units grown unit is None = refl
one_more units grown unit is (Some more) = ap Some (sym (append_assoc units (unit ∷ []) more) ∙ ap (λ us. us ++ more)
    (sym is))

two_bytes : (high low : ℕ) (rest : List ℕ) → units_of_bytes (high ∷ low ∷ rest) ≡ option_map (λ more. (256 * high +
    low) ∷ more) (units_of_bytes rest)
unfolding units_of_bytes
two_bytes high low rest = refl

lone : (units : List ℕ) (byte : ℕ) → behind units (units_of_bytes (byte ∷ [])) ≡ None
unfolding units_of_bytes
lone units byte = refl

ended : (units : List ℕ) → behind units (units_of_bytes []) ≡ Some units
unfolding units_of_bytes
ended units = ap Some (append-nil units)

pub one_step : (bytes units grown : List ℕ) (at : ℕ) → at + 1 < length bytes → grown ≡ units ++ (256 * get_or bytes at
    0 + get_or bytes (at + 1) 0) ∷ [] → units_of_bytes bytes ≡ behind units (units_of_bytes (drop at bytes)) →
    units_of_bytes bytes ≡ behind grown (units_of_bytes (drop (at + 2) bytes))
one_step bytes units grown at within grows so_far =
    so_far ∙ ap (λ bs. behind units (units_of_bytes bs)) (two bytes at within)
    ∙ ap (behind units) (two_bytes (get_or bytes at 0) (get_or bytes (at + 1) 0) (drop (at + 2) bytes))
    ∙ one_more units grown (256 * get_or bytes at 0 + get_or bytes (at + 1) 0) grows (units_of_bytes (drop (at + 2)
    bytes))

pub odd_end : (bytes units : List ℕ) (at : ℕ) → at < length bytes → length bytes ≤ at + 1 → units_of_bytes bytes ≡
    behind units (units_of_bytes (drop at bytes)) → units_of_bytes bytes ≡ None
odd_end bytes units at within last so_far =
    let one : drop at bytes ≡ get_or bytes at 0 ∷ [] = drop_more bytes at 0 within ∙ ap (λ bs. get_or bytes at 0 ∷ bs)
    (drop_all (at + 1) bytes last) in
    so_far ∙ ap (λ bs. behind units (units_of_bytes bs)) one ∙ lone units (get_or bytes at 0)

pub even_end : (bytes units : List ℕ) (at : ℕ) → length bytes ≤ at → units_of_bytes bytes ≡ behind units
    (units_of_bytes (drop at bytes)) → units_of_bytes bytes ≡ Some units
even_end bytes units at all so_far =
    so_far ∙ ap (λ bs. behind units (units_of_bytes bs)) (drop_all at bytes all) ∙ ended units
