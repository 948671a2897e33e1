-- What the definitions imply.
use Rattle.std.specs.Prelude.{◌≡◌, ℕ, ◌+◌, ◌-◌, ◌≤◌, ◌==◌, ◌||◌, nat_lt, if◌then◌else◌, List, [], ◌∷◌, Option}
use Rattle.list_numbers.specs.declared.number_kind.LetterCase.{LetterCase}
use Rattle.doc_model.specs.declared.document.Document.{Document}
use Rattle.plain_doc.specs.Sound.{IsSound}
use Rattle.list_numbers.specs.NumberText.{roman}
use Rattle.list_numbers.specs.Numbers.{AreNumbers}
use Rattle.list_numbers.specs.Outline.{AreOutlineLines}
use Rattle.list_numbers.specs.declared.paragraph_values.ParagraphValues.{ParagraphValues}
use Rattle.list_numbers.specs.ParagraphValues.{AreParagraphValuesOf}

-- the value of a letter, capital or small
unfoldable pub letter_value : ℕ → ℕ
letter_value letter =
    if letter == 73 || letter == 105 then 1 else
    if letter == 86 || letter == 118 then 5 else
    if letter == 88 || letter == 120 then 10 else
    if letter == 76 || letter == 108 then 50 else
    if letter == 67 || letter == 99 then 100 else
    if letter == 68 || letter == 100 then 500 else
    if letter == 77 || letter == 109 then 1000 else 0

-- the sum of the letters' values, a letter before a greater one taken off
unfoldable pub roman_value : List ℕ → ℕ
roman_value [] = 0
roman_value (letter ∷ []) = letter_value letter
roman_value (letter ∷ next ∷ rest) =
    if nat_lt (letter_value letter) (letter_value next) then roman_value (next ∷ rest) - letter_value letter else
    letter_value letter + roman_value (next ∷ rest)

-- the letters of a Roman number say the number
abbrev pub RomanNumeralsAreReadBack : Type 0
RomanNumeralsAreReadBack =
    (case : LetterCase) (number : ℕ) → 1 ≤ number → number ≤ 3999 → roman_value (roman case number) ≡ number

-- a document has one list of numbers
abbrev pub NumbersAreOne : Type 0
NumbersAreOne =
    (document : Document) (one other : List (Option (List ℕ))) → AreNumbers document one → AreNumbers document other →
    one ≡ other

-- a document has one text of outline lines
abbrev pub OutlineLinesAreOne : Type 0
OutlineLinesAreOne =
    (document : Document) (one other : List ℕ) → AreOutlineLines document one → AreOutlineLines document other →
    one ≡ other

-- a document has one list of values of its paragraphs
abbrev pub ParagraphValuesAreOne : Type 0
ParagraphValuesAreOne =
    (document : Document) (one other : List ParagraphValues) → AreParagraphValuesOf document one →
    AreParagraphValuesOf document other → one ≡ other

-- the main paragraphs of a sound document have numbers, lines and values
abbrev pub NumbersExist : Type 0
NumbersExist =
    (document : Document) → IsSound document → (numbers : List (Option (List ℕ))) × AreNumbers document numbers

abbrev pub OutlineLinesExist : Type 0
OutlineLinesExist = (document : Document) → IsSound document → (lines : List ℕ) × AreOutlineLines document lines

abbrev pub ParagraphValuesExist : Type 0
ParagraphValuesExist =
    (document : Document) → IsSound document → (values : List ParagraphValues) × AreParagraphValuesOf document values
