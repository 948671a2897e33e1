-- How many bytes texts have, and how many characters units are.
use Rattle.std.proofs.Common.{◌≡◌, ℕ, ◌+◌, ◌*◌, ◌^◌, ◌<◌, ◌≤◌, Bool, true, false, List, [], ◌∷◌, ◌++◌, length, suc, Option, None, Some}
use Rattle.std.proofs.Common.{refl, ap, ◌∙◌, arith, length-append, if◌then◌else◌}
use Rattle.std.specs.Prelude.{encode_utf8_all, nat_le}
use Rattle.std.specs.Char.{encode_utf8}
use Rattle.std.specs.Fmt.{decimal}
use Rattle.std.proofs.lemmas.Bool.{leb-true}
use Rattle.std.proofs.lemmas.Fmt.{IsAscii-decimal, length-decimal-le}
use Rattle.std.proofs.lemmas.Str.{encodes-IsAscii, encodes-append, len_utf8_bounds, length-encode}
use Rattle.text_codes.specs.Halves.{first_half, is_high}
use Rattle.text_codes.specs.Shown.{is_pair, pair_code}
use Rattle.glyph_units.specs.Units.{alone, first_text, unit_half, unit_text, units_text}

-- how many bytes a text has in UTF-8
abbrev pub size : List ℕ → ℕ
size text = length (encode_utf8_all text)

pub size-append : (xs ys : List ℕ) → size (xs ++ ys) ≡ size xs + size ys
size-append xs ys =
    ap (λ (bytes : List ℕ). length bytes) (encodes-append xs ys) ∙ length-append (encode_utf8_all xs) (encode_utf8_all ys)

size-cons : (code : ℕ) (text : List ℕ) → size (code ∷ text) ≤ 4 + size text
size-cons code text =
    omega (
      arith,
      length-encode code,
      (len_utf8_bounds code).1,
      length-append (encode_utf8 code) (encode_utf8_all text),
    )

pub size_four : (text : List ℕ) → size text ≤ 4 * length text
size_four [] = omega arith
size_four (code ∷ text) =
    let long : size (code ∷ text) ≤ 4 * suc (length text) = omega (arith, size-cons code text, size_four text) in
    long

pub size-one : (code : ℕ) → size (code ∷ []) ≤ 4
size-one code =
    let none : size [] ≡ 0 = refl in
    omega (arith, none, size-cons code [])

-- so many digits are as many bytes
pub size-decimal : (count number : ℕ) → 0 < count → number < 10 ^ count → number < 2 ^ 64 → size (decimal number) ≤ count
size-decimal count number some low small =
    omega (
      arith,
      length-decimal-le count number some low small,
      ap (λ (bytes : List ℕ). length bytes) (encodes-IsAscii (decimal number) (IsAscii-decimal number small)),
    )

pub six_digits : (number : ℕ) → number < 1000000 → size (decimal number) ≤ 6
six_digits number low = size-decimal 6 number (omega arith) (omega (arith, low)) (omega (arith, low))

-- at most so many bytes: the test computes
pub closed_size : (text : List ℕ) (bound : ℕ) → nat_le (size text) bound ≡ true → size text ≤ bound
closed_size text bound is = leb-true (size text) bound is

pub either_size : (bound : ℕ) (test : Bool) (one other : List ℕ) → size one ≤ bound → size other ≤ bound → size (if test
    then one else other) ≤ bound
either_size bound true one other a b = a
either_size bound false one other a b = b

-- ---- units

-- a half that waits may still be a character
abbrev pub waiting : Option ℕ → ℕ
waiting None = 0
waiting (Some unit) = 1

either_length : (bound : ℕ) (test : Bool) (one other : List ℕ) (half none : Option ℕ) → length one + waiting half ≤ bound →
    length other + waiting none ≤ bound → length (if test then one else other) + waiting (if test then half else none) ≤
    bound
either_length bound true one other half none a b = a
either_length bound false one other half none a b = b

first_length : (unit : ℕ) → length (first_text unit) + waiting (first_half unit) ≤ 1
first_length unit = either_length 1 (is_high unit) [] (alone unit ∷ []) (Some unit) None (omega arith) (omega arith)

-- a unit where a half waits or none
pub unit_length : (half : Option ℕ) (unit : ℕ) → length (unit_text half unit) + waiting (unit_half half unit) ≤ waiting
    half + 1
unit_length None unit = first_length unit
unit_length (Some first) unit =
    either_length 2 (is_pair first unit) (pair_code first unit ∷ []) (0xFFFD ∷ [] ++ first_text unit) None (first_half unit)
    (omega arith) (omega (arith, first_length unit))

-- units one behind the other
pub units_length : (half : Option ℕ) (units : List ℕ) → length (units_text half units) ≤ waiting half + length units
units_length None [] = omega arith
units_length (Some first) [] = omega arith
units_length half (unit ∷ units) =
    let one = unit_text half unit in
    let rest = units_text (unit_half half unit) units in
    let long : length (one ++ rest) ≤ waiting half + suc (length units) =
    omega (arith, unit_length half unit, units_length (unit_half half unit) units, length-append one rest) in
    long
