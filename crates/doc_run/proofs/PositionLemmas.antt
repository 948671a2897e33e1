-- A word of at most nine digits is a number of 32 bits.
use Rattle.std.proofs.Common.{◌≡◌, ℕ, ◌<◌, ◌≤◌, ◌^◌, List, length, Result, Err, arith}
use Rattle.std.proofs.lemmas.Result.{OkIff-at_err}
use Rattle.std.specs.Str.Parse.{AllDigits, digits_value, ParsesUnsigned}
use Rattle.std.proofs.lemmas.Str.Parse.{parse_digits, numerals_by_value, tells_digits}
use Rattle.std.proofs.lemmas.Int.Digits.{digits_value-lt}
use Rattle.std.proofs.Math.Nat.{pow-le-pow_right}
use Rattle.doc_run.specs.Commands.{IsPosition}

-- so it is parsed
pub position-parsed :
    {E : Type 0} (word : List ℕ) (pos : ℕ) (parsed : Result ℕ E) (error : E) → ParsesUnsigned 32 10 word parsed →
    parsed ≡ Err error → IsPosition word pos → ⊥
position-parsed word pos parsed error parses failed is =
    let below = digits_value-lt 10 word is.digits.1 in
    let most : 10 ^ length word ≤ 10 ^ 9 = pow-le-pow_right (omega arith) is.short in
    let small : digits_value 10 word < 2 ^ 32 = omega arith in
    let ok = parse_digits (numerals_by_value (AllDigits 10) tells_digits) 32 word parsed parses is.digits.1 in
    OkIff-at_err parsed ((0 < length word) × (digits_value 10 word < 2 ^ 32)) (digits_value 10 word) error ok failed
    (is.digits.0, small)
