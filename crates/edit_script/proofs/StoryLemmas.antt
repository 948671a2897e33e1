-- Numbers as they are written, and words that begin with a prefix.
use Rattle.std.proofs.Common.{◌≡◌, ◌≢◌, ℕ, zero, suc, ◌^◌, ◌<◌, Bool, true, false, List, [], ◌∷◌, ◌++◌, length, take}
use Rattle.std.proofs.Common.{drop, Option, Some, None, Result, Ok, Err, refl, sym, ap, ◌∙◌, subst, arith}
use Rattle.std.specs.Prelude.{nat_lt, if◌then◌else◌, slice_index, bytes_eq, decimal}
use Rattle.std.specs.Result.{result_ok}
use Rattle.std.specs.Char.{digit_value}
use Rattle.std.specs.Str.Parse.{AllDigits, IsNumeral, digits_value, ParsesUnsigned}
use Rattle.std.specs.Str.Pattern.{LacksTextAt}
use Rattle.std.proofs.lemmas.Bool.{ltb-true, lt-ltb}
use Rattle.std.proofs.lemmas.Fmt.{decimal_is_IsNumeral, first_decimal, length-decimal-le_succ, decimal-digits_value}
use Rattle.std.proofs.Math.Seq.{take-append_seam, drop-append_seam}
use Rattle.std.proofs.lemmas.List.{take-append-drop}
use Rattle.std.proofs.lemmas.Slice.Eq.{bytes_eq-Decides}
use Rattle.std.proofs.lemmas.Str.Parse.{IsNumeralModel, numerals_by_value, tells_digits, parse_plain}
use Rattle.edit_script.specs.Stories.{number_written, number_after}

abbrev chosen : Bool → Bool → ℕ → Option ℕ
chosen same small value = if same then (if small then Some value else None) else None

none_chosen : (same small : Bool) (value : ℕ) → (same ≡ true → small ≡ true → ⊥) → None ≡ chosen same small value
none_chosen true true value never = absurd (never refl refl)
none_chosen true false value never = refl
none_chosen false small value never = refl

some_chosen : (same small : Bool) (value : ℕ) → same ≡ true → small ≡ true → Some value ≡ chosen same small value
some_chosen true true value s l = refl
some_chosen true false value s l = absurd (cc (l))
some_chosen false small value s l = absurd (cc (s))

pub not_written : (digits : List ℕ) → (digits_value 10 digits < 2 ^ 32 → digits ≡ decimal (digits_value 10 digits) →
    ⊥) → None ≡ number_written digits
not_written digits never =
    let value = digits_value 10 digits in
    none_chosen (bytes_eq digits (decimal value)) (nat_lt value (2 ^ 32)) value
    (λ same small. never (ltb-true value (2 ^ 32) small) ((bytes_eq-Decides digits (decimal value)).0 same))

pub written : (digits : List ℕ) → digits_value 10 digits < 2 ^ 32 → digits ≡ decimal (digits_value 10 digits) →
    Some (digits_value 10 digits) ≡ number_written digits
written digits small is =
    let value = digits_value 10 digits in
    some_chosen (bytes_eq digits (decimal value)) (nat_lt value (2 ^ 32)) value ((bytes_eq-Decides digits
    (decimal value)).1 is) (lt-ltb value (2 ^ 32) small)

-- what decimal writes is a numeral
numeral : (digits : List ℕ) → digits_value 10 digits < 2 ^ 32 → digits ≡ decimal (digits_value 10 digits) →
    IsNumeral 10 digits
numeral digits small is = subst (IsNumeral 10) (sym is) (decimal_is_IsNumeral (digits_value 10 digits) (omega arith)).0

no_plus : (digits : List ℕ) → AllDigits 10 digits → slice_index digits 0 ≡ 43 → ⊥
no_plus [] all e = omega (arith, e)
no_plus (c ∷ cs) all e = let k : digit_value 43 < 10 = subst (λ x. digit_value x < 10) e all.0 in omega (arith, k)

pub plus_is_not_written : (digits : List ℕ) → slice_index digits 0 ≡ 43 → None ≡ number_written digits
plus_is_not_written digits e = not_written digits (λ small is. no_plus digits (numeral digits small is).1 e)

no_zero : (value : ℕ) → value < 2 ^ 64 → slice_index (decimal value) 0 ≡ 48 → 1 < length (decimal value) → ⊥
no_zero zero small e long = omega (arith, length-decimal-le_succ zero (omega arith))
no_zero (suc value) small e long = omega (arith, first_decimal (suc value) (omega arith) small)

pub zero_is_not_written : (digits : List ℕ) → slice_index digits 0 ≡ 48 → 1 < length digits → None ≡ number_written
    digits
zero_is_not_written digits e long =
    not_written digits (λ small is. no_zero (digits_value 10 digits) (omega arith)
    (subst (λ ds. slice_index ds 0 ≡ 48) is e) (subst (λ ds. 1 < length ds) is long))

pub lone_zero : (digits : List ℕ) → slice_index digits 0 ≡ 48 → (1 < length digits → ⊥) → length digits ≡ 1
lone_zero [] e short = absurd (omega (arith, e))
lone_zero (c ∷ []) e short = refl
lone_zero (c ∷ d ∷ cs) e short = absurd (short (omega arith))

model : IsNumeralModel (AllDigits 10) (digits_value 10)
model = numerals_by_value (AllDigits 10) tells_digits

pub parsed : {E : Type 0} (digits : List ℕ) (r : Result ℕ E) → slice_index digits 0 ≢ 43 →
    (slice_index digits 0 ≡ 48 → length digits ≡ 1) → ParsesUnsigned 32 10 digits r → result_ok r ≡ number_written
    digits
parsed {E = E} digits (Ok value) plus lead h =
    let k : (AllDigits 10 digits × (0 < length digits) × (digits_value 10 digits < 2 ^ 32)) × (value ≡ digits_value 10
    digits) = parse_plain model {E = E} 32 digits (Ok value) h plus in
    let is = decimal-digits_value model digits k.0.0 k.0.1 lead (omega (arith, k.0.2)) in
    ap Some k.1 ∙ written digits k.0.2 (sym is)
parsed {E = E} digits (Err fault) plus lead h =
    let k : ¬ (AllDigits 10 digits × (0 < length digits) × (digits_value 10 digits < 2 ^ 32)) = parse_plain model
    {E = E} 32 digits (Err fault) h plus in
    not_written digits (λ small is. let n = numeral digits small is in k (n.1, n.0, small))

-- ---- prefixes

none_unless : (same : Bool) (other : Option ℕ) → (same ≡ true → ⊥) → None ≡ (if same then other else None)
none_unless true other never = absurd (never refl)
none_unless false other never = refl

other_if : (same : Bool) (other : Option ℕ) → same ≡ true → other ≡ (if same then other else None)
other_if true other is = refl
other_if false other is = absurd (cc (is))

pub lacks_prefix : (prefix word : List ℕ) → LacksTextAt prefix word 0 → None ≡ number_after prefix word
lacks_prefix prefix word lacks =
    let n = length prefix in
    none_unless (bytes_eq (take n word) prefix) (number_written (drop n word))
    (λ same. lacks (drop n word) (sym (take-append-drop n word) ∙ ap (λ xs. xs ++ drop n word)
    ((bytes_eq-Decides (take n word) prefix).0 same)))

pub has_prefix : (prefix word rest : List ℕ) → word ≡ prefix ++ rest → number_written rest ≡ number_after prefix word
has_prefix prefix word rest is =
    let n = length prefix in
    let front : take n word ≡ prefix = ap (take n) is ∙ take-append_seam prefix rest in
    let back : drop n word ≡ rest = ap (drop n) is ∙ drop-append_seam prefix rest in
    ap number_written (sym back) ∙ other_if (bytes_eq (take n word) prefix) (number_written (drop n word))
    ((bytes_eq-Decides (take n word) prefix).1 front)
