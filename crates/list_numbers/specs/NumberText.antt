-- The text of a number. A Roman number is said by its four decimal digits, and no greatest letter is looked for.
use Rattle.std.specs.Prelude.{ℕ, ◌+◌, ◌-◌, ◌/◌, ◌%◌, ◌&&◌, nat_le, if◌then◌else◌, List, [], ◌∷◌, ◌++◌, map, get_or}
use Rattle.std.specs.Prelude.{replicate, codes, slice_index, Option, Some, None, ℤ, pos, negsuc}
use Rattle.std.specs.Fmt.{signed_decimal}
use Rattle.list_numbers.specs.declared.number_kind.LetterCase.{LetterCase}
use Rattle.list_numbers.specs.declared.number_kind.LetterCase.TheVariants.{Upper, Lower}
use Rattle.list_numbers.specs.declared.number_kind.NumberKind.{NumberKind}
use Rattle.list_numbers.specs.declared.number_kind.NumberKind.TheVariants.{Decimal, Roman, Letters, Bullet, Nothing}
use Rattle.list_numbers.specs.NumberKind.{kind_of_nfc}

-- a capital letter, or the small one
abbrev pub in_case : LetterCase → ℕ → ℕ
in_case Upper letter = letter
in_case Lower letter = letter + 32

-- the patterns of the digits 0 to 9: 0 for the letter of one, 1 for that of five, 2 for that of ten
abbrev pub roman_patterns : List (List ℕ)
roman_patterns =
    [] ∷ (0 ∷ []) ∷ (0 ∷ 0 ∷ []) ∷ (0 ∷ 0 ∷ 0 ∷ []) ∷ (0 ∷ 1 ∷ [])
    ∷ (1 ∷ []) ∷ (1 ∷ 0 ∷ []) ∷ (1 ∷ 0 ∷ 0 ∷ []) ∷ (1 ∷ 0 ∷ 0 ∷ 0 ∷ []) ∷ (0 ∷ 2 ∷ []) ∷ []

abbrev pub roman_steps : ℕ → List ℕ
roman_steps digit = get_or roman_patterns digit []

-- a digit by the letters of one, five and ten of its place
abbrev pub roman_digit : List ℕ → LetterCase → ℕ → List ℕ
roman_digit place case digit = map (λ step. in_case case (slice_index place step)) (roman_steps digit)

-- as many M as there are thousands, and the digits of the hundreds, the tens and the ones
unfoldable pub roman : LetterCase → ℕ → List ℕ
roman case number =
    replicate (number / 1000) (in_case case 77)
    ++ (roman_digit (codes "CDM") case (number / 100 % 10)
    ++ (roman_digit (codes "XLC") case (number / 10 % 10) ++ roman_digit (codes "IVX") case (number % 10)))

-- A to Z, then each twice, and so on
unfoldable pub letters : LetterCase → ℕ → List ℕ
letters case number = replicate ((number - 1) / 26 + 1) (in_case case (65 + (number - 1) % 26))

-- the value, where it is from 1 to `most`
abbrev pub within : ℕ → ℤ → Option ℕ
within most (pos number) = if nat_le 1 number && nat_le number most then Some number else None
within most (negsuc number) = None

abbrev pub roman_or_decimal : LetterCase → ℤ → Option ℕ → List ℕ
roman_or_decimal case value (Some number) = roman case number
roman_or_decimal case value None = signed_decimal value

abbrev pub letters_or_decimal : LetterCase → ℤ → Option ℕ → List ℕ
letters_or_decimal case value (Some number) = letters case number
letters_or_decimal case value None = signed_decimal value

-- Roman numbers reach to 3,999, letters to 780; all else is decimal, with a minus where it is negative
abbrev pub numeral_in : NumberKind → ℤ → List ℕ
numeral_in (Roman case) value = roman_or_decimal case value (within 3999 value)
numeral_in (Letters case) value = letters_or_decimal case value (within 780 value)
numeral_in Decimal value = signed_decimal value
numeral_in Bullet value = signed_decimal value
numeral_in Nothing value = signed_decimal value

-- the text of a number, by the number of its kind
abbrev pub number_text : ℕ → ℤ → List ℕ
number_text kind value = numeral_in (kind_of_nfc kind) value
