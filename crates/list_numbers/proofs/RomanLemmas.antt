-- Roman numbers are read back, digit by digit.
use Rattle.std.proofs.Common.{◌≡◌, ℕ, zero, suc, ◌+◌, ◌-◌, ◌*◌, ◌/◌, ◌%◌, ◌<◌, ◌≤◌, List, [], ◌∷◌, ◌++◌, map}
use Rattle.std.proofs.Common.{replicate, refl, sym, ap, ◌∙◌, arith, below_more}
use Rattle.std.proofs.lemmas.Bool.{lt-ltb, le-ltb}
use Rattle.std.proofs.lemmas.List.{append-nil}
use Rattle.std.specs.Prelude.{slice_index, codes}
use Rattle.list_numbers.specs.declared.number_kind.LetterCase.{LetterCase}
use Rattle.list_numbers.specs.declared.number_kind.LetterCase.TheVariants.{Upper, Lower}
use Rattle.list_numbers.specs.NumberText.{roman, roman_steps, in_case}
use Rattle.list_numbers.specs.Laws.{letter_value, roman_value, RomanNumeralsAreReadBack}

-- the value of the first letter
abbrev first : List ℕ → ℕ
first [] = 0
first (letter ∷ rest) = letter_value letter

-- a letter that is not before a greater one
plain : (letter : ℕ) (rest : List ℕ) → first rest ≤ letter_value letter → roman_value (letter ∷ rest) ≡ letter_value
    letter + roman_value rest
unfolding roman_value
plain letter [] h = omega arith
plain letter (next ∷ rest) h = rw (le-ltb (letter_value letter) (letter_value next) h) refl

-- a letter before a greater one
taken : (letter next : ℕ) (rest : List ℕ) → letter_value letter < letter_value next → roman_value (letter ∷ next ∷
    rest) ≡ roman_value (next ∷ rest) - letter_value letter
unfolding roman_value
taken letter next rest h = rw (lt-ltb (letter_value letter) (letter_value next) h) refl

-- the letters of a place are worth one, five and ten of its units
record ArePlace (letter : ℕ → ℕ) (worth : ℕ) (rest : List ℕ) : Type 0 where
  some : 0 < worth
  one : letter_value (letter 0) ≡ worth
  five : letter_value (letter 1) ≡ 5 * worth
  ten : letter_value (letter 2) ≡ 10 * worth
  after : first rest ≤ worth

-- a digit before what follows it
record IsDigitRead (letter : ℕ → ℕ) (worth : ℕ) (rest : List ℕ) (digit : ℕ) : Type 0 where
  value : roman_value (map letter (roman_steps digit) ++ rest) ≡ digit * worth + roman_value rest
  begins : first (map letter (roman_steps digit) ++ rest) ≤ 5 * worth

-- so many letters of one after a letter of five, or alone
ones : (letter : ℕ → ℕ) (worth : ℕ) (rest : List ℕ) (times : ℕ) → ArePlace letter worth rest →
    (roman_value (replicate times (letter 0) ++ rest) ≡ times * worth + roman_value rest)
    × (first (replicate times (letter 0) ++ rest) ≤ worth)
ones letter worth rest zero h = (omega arith, h.after)
ones letter worth rest (suc times) h =
    let more = ones letter worth rest times h in
    let one = h.one in
    let here = plain (letter 0) (replicate times (letter 0) ++ rest) (let low = more.1 in omega arith) in
    let value = more.0 in
    (omega arith, omega arith)

after_five : (letter : ℕ → ℕ) (worth : ℕ) (rest : List ℕ) (times : ℕ) → ArePlace letter worth rest →
    roman_value (letter 1 ∷ replicate times (letter 0) ++ rest) ≡ (5 + times) * worth + roman_value rest
after_five letter worth rest times h =
    let more = ones letter worth rest times h in
    let five = h.five in
    let value = more.0 in
    let low = more.1 in
    let here = plain (letter 1) (replicate times (letter 0) ++ rest) (omega arith) in
    let spread : (5 + times) * worth ≡ 5 * worth + times * worth = grind arith in
    omega arith

digit_read : (letter : ℕ → ℕ) (worth : ℕ) (rest : List ℕ) → ArePlace letter worth rest → (digit : ℕ) → digit < 10 →
    IsDigitRead letter worth rest digit
digit_read letter worth rest h =
    let one = h.one in
    let five = h.five in
    let ten = h.ten in
    let some = h.some in
    let after = h.after in
    let P = IsDigitRead letter worth rest in
    let plain_five = plain (letter 1) rest (omega arith) in
    let plain_ten = plain (letter 2) rest (omega arith) in
    let four = taken (letter 0) (letter 1) rest (omega arith) in
    let nine = taken (letter 0) (letter 2) rest (omega arith) in
    let u1 = ones letter worth rest 1 h in
    let u2 = ones letter worth rest 2 h in
    let u3 = ones letter worth rest 3 h in
    let p0 : P 0 = record { value = omega arith; begins = omega arith } in
    let p1 : P 1 = record { value = u1.0; begins = omega arith } in
    let p2 : P 2 = record { value = u2.0; begins = omega arith } in
    let p3 : P 3 = record { value = u3.0; begins = omega arith } in
    let p4 : P 4 = record { value = omega arith; begins = omega arith } in
    let p5 : P 5 = record { value = after_five letter worth rest 0 h; begins = omega arith } in
    let p6 : P 6 = record { value = after_five letter worth rest 1 h; begins = omega arith } in
    let p7 : P 7 = record { value = after_five letter worth rest 2 h; begins = omega arith } in
    let p8 : P 8 = record { value = after_five letter worth rest 3 h; begins = omega arith } in
    let p9 : P 9 = record { value = omega arith; begins = omega arith } in
    below_more P 9 (below_more P 8 (below_more P 7 (below_more P 6 (below_more P 5 (below_more P 4 (below_more P 3
    (below_more P 2 (below_more P 1 (below_more P 0 (λ j low. absurd (omega arith)) p0) p1) p2) p3) p4) p5) p6) p7)
    p8) p9

-- so many letters of a thousand
thousands : (letter : ℕ) (rest : List ℕ) (times : ℕ) → letter_value letter ≡ 1000 → first rest ≤ 1000 →
    (roman_value (replicate times letter ++ rest) ≡ times * 1000 + roman_value rest)
    × (first (replicate times letter ++ rest) ≤ 1000)
thousands letter rest zero worth after = (omega arith, after)
thousands letter rest (suc times) worth after =
    let more = thousands letter rest times worth after in
    let value = more.0 in
    let low = more.1 in
    let here = plain letter (replicate times letter ++ rest) (omega arith) in
    (omega arith, omega arith)

-- a letter of either case
worth_of : (case : LetterCase) (letter worth : ℕ) → letter_value letter ≡ worth → letter_value (letter + 32) ≡ worth →
    letter_value (in_case case letter) ≡ worth
worth_of Upper letter worth capital small = capital
worth_of Lower letter worth capital small = small

no_letters : roman_value [] ≡ 0
unfolding roman_value
no_letters = refl

place_is : (case : LetterCase) (one five ten worth : ℕ) (rest : List ℕ) → 0 < worth →
    letter_value (in_case case one) ≡ worth → letter_value (in_case case five) ≡ 5 * worth →
    letter_value (in_case case ten) ≡ 10 * worth → first rest ≤ worth →
    ArePlace (λ step. in_case case (slice_index (one ∷ five ∷ ten ∷ []) step)) worth rest
place_is case one five ten worth rest some a b c after =
    record { some = some; one = a; five = b; ten = c; after = after }

pub roman_read : RomanNumeralsAreReadBack
unfolding roman letter_value
roman_read case number low high =
    let a : ℕ = number / 1000 in
    let b : ℕ = number / 100 % 10 in
    let c : ℕ = number / 10 % 10 in
    let d : ℕ = number % 10 in
    let fc : ℕ → ℕ = λ step. in_case case (slice_index (codes "CDM") step) in
    let fx : ℕ → ℕ = λ step. in_case case (slice_index (codes "XLC") step) in
    let fi : ℕ → ℕ = λ step. in_case case (slice_index (codes "IVX") step) in
    let i : List ℕ = map fi (roman_steps d) in
    let x : List ℕ = map fx (roman_steps c) ++ i in
    let m : List ℕ = map fc (roman_steps b) ++ x in
    let w1 = worth_of case 73 1 refl refl in
    let w5 = worth_of case 86 5 refl refl in
    let w10 = worth_of case 88 10 refl refl in
    let w50 = worth_of case 76 50 refl refl in
    let w100 = worth_of case 67 100 refl refl in
    let w500 = worth_of case 68 500 refl refl in
    let w1000 = worth_of case 77 1000 refl refl in
    let last = digit_read fi 1 [] (place_is case 73 86 88 1 [] (omega arith) w1 w5 w10 (omega arith)) d (omega arith) in
    let same : i ++ [] ≡ i = append-nil i in
    let last_value : roman_value i ≡ d * 1 + roman_value [] = ap roman_value (sym same) ∙ last.value in
    let last_low : first i ≤ 5 = rw (← same) last.begins in
    let tens = digit_read fx 10 i (place_is case 88 76 67 10 i (omega arith) w10 w50 w100 (omega arith)) c
    (omega arith) in
    let tens_low = tens.begins in
    let hundreds = digit_read fc 100 x (place_is case 67 68 77 100 x (omega arith) w100 w500 w1000 (omega arith)) b
    (omega arith) in
    let hundreds_low = hundreds.begins in
    let whole = thousands (in_case case 77) m a w1000 (omega arith) in
    let one = whole.0 in
    let two = hundreds.value in
    let three = tens.value in
    let none = no_letters in
    omega arith
