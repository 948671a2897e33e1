-- Digits are read as what they were written for, and no other digits are.
use Rattle.std.proofs.Common.{◌≡◌, ℕ, zero, suc, ◌+◌, ◌-◌, ◌*◌, ◌/◌, ◌%◌, ◌<◌, ◌≤◌, ◌^◌, Bool, true, false, ◌&&◌}
use Rattle.std.proofs.Common.{List, [], ◌∷◌, ◌++◌, Option, Some, None, refl, sym, ap, ◌∙◌, subst, arith}
use Rattle.std.specs.Prelude.{nat_le, nat_lt, if◌then◌else◌, flat_map}
use Rattle.std.specs.Option.{option_map, unwrap_or}
use Rattle.std.proofs.lemmas.Bool.{leb-true, le-leb, lt-leb, lt-ltb, le-ltb, ltb-true, ltb-false}
use Rattle.std.proofs.Common.{◌⊎◌, inl, inr}
use Rattle.std.specs.Str.{IsAscii, IsUtf8}
use Rattle.std.proofs.lemmas.Str.Ascii.{IsAscii-cons, IsAscii-nil}
use Rattle.std.proofs.lemmas.Str.{IsUtf8-from_ascii}
use Rattle.serde_json.specs.Data.{Data, null, boolean, number, string, array, object}
use Rattle.serde_json.specs.Find.{as_str}
use Rattle.text_codes.specs.Shown.{hex_digit}
use Rattle.doc_bits.specs.Number.{AreBytes}
use Rattle.edit_script.specs.Json.{◌>>=◌}
use Rattle.edit_script.specs.Hex.{digit_of, byte_of_digits, bytes_of_digits, code_of_digits}
use Rattle.edit_script.specs.Values.{bytes_of}
use Rattle.text_codes.specs.Digits.{byte_text, word_text}
use Rattle.json_values.specs.Digits.{bytes_json, units_json, units_of_bytes, hex_units_of}
use Rattle.json_values.specs.Digits.{AreUnits}
use Rattle.json_values.specs.Digits.{DigitsAreOne}
use Rattle.doc_bits.proofs.Public.{both_true, no_bytes}
use Rattle.text_codes.proofs.Public.{hex_ascii}
use Rattle.edit_script.proofs.Public.{steps_found}

-- ---- a digit

pub hex_small : (n : ℕ) → n < 10 → hex_digit n ≡ 48 + n
hex_small n less = rw (lt-ltb n 10 less) refl

pub hex_large : (n : ℕ) → 10 ≤ n → hex_digit n ≡ 97 + (n - 10)
hex_large n more = rw (le-ltb n 10 more) refl

digit_back_by : (n : ℕ) (b : Bool) → nat_lt n 10 ≡ b → n < 16 →
    digit_of (if b then 48 + n else 97 + (n - 10)) ≡ Some n
digit_back_by n true e small =
    let less = ltb-true n 10 e in
    rw (le-leb 48 (48 + n) (omega arith), le-leb (48 + n) 57 (omega (arith, less))) (ap Some (omega arith))
digit_back_by n false e small =
    let more = ltb-false n 10 e in
    let c = 97 + (n - 10) in
    rw (
      le-leb 48 c (omega arith),
      lt-leb c 57 (omega (arith, more)),
      le-leb 97 c (omega arith),
      le-leb c 102 (omega (arith, small)),
    ) (ap Some (omega (arith, more)))

pub digit_back : (n : ℕ) → n < 16 → digit_of (hex_digit n) ≡ Some n
digit_back n small = digit_back_by n (nat_lt n 10) refl small

-- the character is the digit of the number
record IsDigit (character n : ℕ) : Type 0 where
  is : character ≡ hex_digit n
  small : n < 16

digit_by : (figure letter : Bool) (c n : ℕ) → (figure ≡ true → (48 ≤ c) × (c ≤ 57)) →
    (letter ≡ true → (97 ≤ c) × (c ≤ 102)) → (if figure then Some (c - 48) else if letter
    then Some (c - 87) else None) ≡ Some n → IsDigit c n
digit_by true letter c n f l e =
    let is : c - 48 ≡ n = ap (λ o. unwrap_or o 0) e in
    let less : n < 10 = omega (arith, (f refl).0, (f refl).1, is) in
    record {
      is = sym (hex_small n less ∙ omega (arith, (f refl).0, is));
      small = omega (arith, less);
    }
digit_by false true c n f l e =
    let is : c - 87 ≡ n = ap (λ o. unwrap_or o 0) e in
    let more : 10 ≤ n = omega (arith, (l refl).0, is) in
    record {
      is = sym (hex_large n more ∙ omega (arith, (l refl).0, more, is));
      small = omega (arith, (l refl).0, (l refl).1, is);
    }
digit_by false false c n f l e = absurd (cc (e))

digit_is : (c n : ℕ) → digit_of c ≡ Some n → IsDigit c n
digit_is c n =
    digit_by (nat_le 48 c && nat_le c 57) (nat_le 97 c && nat_le c 102) c n
    (λ e. let k = both_true (nat_le 48 c) (nat_le c 57) e in (leb-true 48 c k.0, leb-true c 57 k.1))
    (λ e. let k = both_true (nat_le 97 c) (nat_le c 102) e in (leb-true 97 c k.0, leb-true c 102 k.1))

-- ---- a byte and a code

-- two steps that find
pub steps_find : {A B C : Type 0} (o : Option A) (p : Option B) (f : A → B → Option C) (a : A) (b : B) →
    o ≡ Some a → p ≡ Some b → (o >>= λ x. p >>= λ y. f x y) ≡ f a b
steps_find o p f a b is also =
    ap (λ q. q >>= λ x. p >>= λ y. f x y) is ∙ ap (λ q. q >>= λ y. f a y) also

pub byte_back : (b : ℕ) → b < 256 → byte_of_digits (hex_digit (b / 16)) (hex_digit (b % 16)) ≡ Some b
byte_back b small =
    steps_find (digit_of (hex_digit (b / 16))) (digit_of (hex_digit (b % 16))) (λ u l. Some (16 * u + l)) (b / 16) (b %
    16) (digit_back (b / 16) (omega (arith, small))) (digit_back (b % 16) (omega arith))
    ∙ ap Some (omega arith)

-- two characters that are the digits of a byte
pub record IsPair (high low byte : ℕ) : Type 0 where
  pub first : high ≡ hex_digit (byte / 16)
  pub second : low ≡ hex_digit (byte % 16)
  pub small : byte < 256

pub pair_is : (high low byte : ℕ) → byte_of_digits high low ≡ Some byte → IsPair high low byte
pair_is high low byte e =
    let k = steps_found (digit_of high) (digit_of low) (λ u l. Some (16 * u + l)) byte e in
    let u = digit_is high k.0 k.2 in
    let l = digit_is low k.1 k.3 in
    let value : 16 * k.0 + k.1 ≡ byte = ap (λ o. unwrap_or o 0) k.4 in
    let upper : k.0 ≡ byte / 16 = omega (arith, value, l.small) in
    let lower : k.1 ≡ byte % 16 = omega (arith, value, l.small) in
    record {
      first = u.is ∙ ap hex_digit upper;
      second = l.is ∙ ap hex_digit lower;
      small = omega (arith, u.small, l.small, value);
    }

pub code_back : (code : ℕ) → code < 2 ^ 16 → code_of_digits (word_text code) ≡ Some code
code_back code small =
    let high = code / 256 in
    let low = code % 256 in
    steps_find (byte_of_digits (hex_digit (high / 16)) (hex_digit (high % 16))) (byte_of_digits (hex_digit (low / 16))
    (hex_digit (low % 16))) (λ h l. Some (256 * h + l)) high low (byte_back high (omega (arith, small)))
    (byte_back low (omega arith))
    ∙ ap Some (omega arith)

four : (a b c d high low code : ℕ) → IsPair a b high → IsPair c d low → high ≡ code / 256 → low ≡ code % 256 →
    a ∷ b ∷ c ∷ d ∷ [] ≡ word_text code
four a b c d high low code p q upper lower =
    (λ i. p.first i ∷ p.second i ∷ q.first i ∷ q.second i ∷ [])
    ∙ (λ i. byte_text (upper i) ++ byte_text (lower i))

pub code_is : (key : List ℕ) (code : ℕ) → code_of_digits key ≡ Some code → (code < 2 ^ 16) × (key ≡ word_text code)
code_is [] code e = absurd (cc (e))
code_is (a ∷ []) code e = absurd (cc (e))
code_is (a ∷ b ∷ []) code e = absurd (cc (e))
code_is (a ∷ b ∷ c ∷ []) code e = absurd (cc (e))
code_is (a ∷ b ∷ c ∷ d ∷ []) code e =
    let k = steps_found (byte_of_digits a b) (byte_of_digits c d) (λ h l. Some (256 * h + l)) code e in
    let p = pair_is a b k.0 k.2 in
    let q = pair_is c d k.1 k.3 in
    let value : 256 * k.0 + k.1 ≡ code = ap (λ o. unwrap_or o 0) k.4 in (
      omega (arith, p.small, q.small, value),
      four a b c d k.0 k.1 code p q (omega (arith, value, q.small)) (omega (arith, value, q.small)),
    )
code_is (a ∷ b ∷ c ∷ d ∷ e ∷ rest) code f = absurd (cc (f))

-- ---- bytes

AreBytes-cons : (b : ℕ) (bs : List ℕ) → b < 256 → AreBytes bs → AreBytes (b ∷ bs)
AreBytes-cons b bs first more zero = first
AreBytes-cons b bs first more (suc i) = more i

pub digits_back : (bytes : List ℕ) → AreBytes bytes → bytes_of_digits (flat_map byte_text bytes) ≡ Some bytes
unfolding bytes_of_digits
digits_back [] are = refl
digits_back (b ∷ bs) are =
    steps_find (byte_of_digits (hex_digit (b / 16)) (hex_digit (b % 16))) (bytes_of_digits (flat_map byte_text bs))
    (λ byte bytes. Some (byte ∷ bytes)) b bs (byte_back b (are 0)) (digits_back bs (λ i. are (suc i)))

pub digits_are : (digits bytes : List ℕ) → bytes_of_digits digits ≡ Some bytes →
    AreBytes bytes × (digits ≡ flat_map byte_text bytes)
unfolding bytes_of_digits
digits_are [] bytes e =
    let none : [] ≡ bytes = ap (λ o. unwrap_or o []) e in
    (subst AreBytes none no_bytes, ap (flat_map byte_text) none)
digits_are (one ∷ []) bytes e = absurd (cc (e))
digits_are (high ∷ low ∷ rest) bytes e =
    let k = steps_found (byte_of_digits high low) (bytes_of_digits rest) (λ b bs. Some (b ∷ bs)) bytes e in
    let is : k.0 ∷ k.1 ≡ bytes = ap (λ o. unwrap_or o []) k.4 in
    let p = pair_is high low k.0 k.2 in
    let more = digits_are rest k.1 k.3 in (
      subst AreBytes is (AreBytes-cons k.0 k.1 p.small more.0),
      (λ i. p.first i ∷ p.second i ∷ more.1 i) ∙ ap (flat_map byte_text) is,
    )

pub string_is : (value : Data) (text : List ℕ) → as_str value ≡ Some text → value ≡ string text
string_is null text e = absurd (cc (e))
string_is (boolean b) text e = absurd (cc (e))
string_is (number n) text e = absurd (cc (e))
string_is (string s) text e = ap (λ o. string (unwrap_or o s)) e
string_is (array ds) text e = absurd (cc (e))
string_is (object ms) text e = absurd (cc (e))

step_found : {A B : Type 0} (o : Option A) (f : A → Option B) (made : B) → (o >>= f) ≡ Some made →
    (a : A) × (o ≡ Some a) × (f a ≡ Some made)
step_found None f made e = absurd (cc (e))
step_found (Some a) f made e = (a, refl, e)

pub bytes_are : (value : Data) (bytes : List ℕ) → bytes_of value ≡ Some bytes →
    AreBytes bytes × (value ≡ bytes_json bytes)
bytes_are value bytes e =
    let k = step_found (as_str value) bytes_of_digits bytes e in
    let are = digits_are k.0 bytes k.2 in
    (are.0, string_is value k.0 k.1 ∙ ap string are.1)

-- ---- units

-- the bytes of a unit, the higher one first
abbrev unit_bytes : ℕ → List ℕ
unit_bytes unit = unit / 256 ∷ unit % 256 ∷ []

unit_digits : (units : List ℕ) → flat_map byte_text (flat_map unit_bytes units) ≡ flat_map word_text units
unit_digits [] = refl
unit_digits (unit ∷ units) = ap (λ more. word_text unit ++ more) (unit_digits units)

AreBytes-units : (units : List ℕ) → AreUnits units → AreBytes (flat_map unit_bytes units)
AreBytes-units [] are = no_bytes
AreBytes-units (unit ∷ units) are =
    let first : unit < 65536 = are 0 in
    AreBytes-cons (unit / 256) (unit % 256 ∷ flat_map unit_bytes units) (omega (arith, first))
    (AreBytes-cons (unit % 256) (flat_map unit_bytes units) (omega arith) (AreBytes-units units (λ i. are (suc i))))

units_read : (units : List ℕ) → units_of_bytes (flat_map unit_bytes units) ≡ Some units
unfolding units_of_bytes
units_read [] = refl
units_read (unit ∷ units) =
    let same : 256 * (unit / 256) + unit % 256 ≡ unit = omega arith in
    ap (option_map (λ more. (256 * (unit / 256) + unit % 256) ∷ more)) (units_read units)
    ∙ ap (λ u. Some (u ∷ units)) same

units_back : (units : List ℕ) → AreUnits units → hex_units_of (units_json units) ≡ Some units
units_back units are =
    ap (λ digits. bytes_of_digits digits >>= units_of_bytes) (sym (unit_digits units))
    ∙ ap (λ o. o >>= units_of_bytes) (digits_back (flat_map unit_bytes units) (AreBytes-units units are))
    ∙ units_read units

AreUnits-cons : (u : ℕ) (us : List ℕ) → u < 65536 → AreUnits us → AreUnits (u ∷ us)
AreUnits-cons u us first more zero = first
AreUnits-cons u us first more (suc i) = more i

mapped : {A B : Type 0} (o : Option A) (f : A → B) (made : B) → option_map f o ≡ Some made →
    (a : A) × (o ≡ Some a) × (◌≡◌ {A = Option B} (Some (f a)) (Some made))
mapped None f made e = absurd (cc (e))
mapped (Some a) f made e = (a, refl, e)

units_of_bytes_are : (bytes units : List ℕ) → AreBytes bytes → units_of_bytes bytes ≡ Some units →
    AreUnits units × (bytes ≡ flat_map unit_bytes units)
unfolding units_of_bytes
units_of_bytes_are [] units are e =
    let none : [] ≡ units = ap (λ o. unwrap_or o []) e in
    (subst AreUnits none (λ i. omega arith), ap (flat_map unit_bytes) none)
units_of_bytes_are (one ∷ []) units are e = absurd (cc (e))
units_of_bytes_are (high ∷ low ∷ rest) units are e =
    let k = mapped (units_of_bytes rest) (λ more. (256 * high + low) ∷ more) units e in
    let is : (256 * high + low) ∷ k.0 ≡ units = ap (λ o. unwrap_or o []) k.2 in
    let h : high < 256 = are 0 in
    let l : low < 256 = are 1 in
    let more = units_of_bytes_are rest k.0 (λ i. are (suc (suc i))) k.1 in
    let upper : high ≡ (256 * high + low) / 256 = omega (arith, l) in
    let lower : low ≡ (256 * high + low) % 256 = omega (arith, l) in (
      subst AreUnits is (AreUnits-cons (256 * high + low) k.0 (omega (arith, h, l)) more.0),
      (λ i. upper i ∷ lower i ∷ more.1 i) ∙ ap (flat_map unit_bytes) is,
    )

units_are : (value : Data) (units : List ℕ) → hex_units_of value ≡ Some units →
    AreUnits units × (value ≡ units_json units)
units_are value units e =
    let k = step_found (bytes_of value) units_of_bytes units e in
    let bytes = bytes_are value k.0 k.1 in
    let are = units_of_bytes_are k.0 units bytes.0 k.2 in
    (are.0, bytes.1 ∙ ap bytes_json are.1 ∙ ap string (unit_digits units))

-- ---- digits are a text

hex_ascii_by : (n : ℕ) → n < 16 → (n < 10) ⊎ (10 ≤ n) → hex_digit n < 128
hex_ascii_by n small (inl less) = omega (arith, hex_small n less)
hex_ascii_by n small (inr more) = omega (arith, hex_large n more, small)

digits_ascii : (b : ℕ) (rest : List ℕ) → b < 256 → IsAscii rest → IsAscii (byte_text b ++ rest)
digits_ascii b rest small ascii =
    IsAscii-cons (hex_digit (b / 16)) (hex_digit (b % 16) ∷ rest) (hex_ascii (b / 16) (omega (arith, small)))
    (IsAscii-cons (hex_digit (b % 16)) rest (hex_ascii (b % 16) (omega arith)) ascii)

bytes_ascii : (bytes : List ℕ) → AreBytes bytes → IsAscii (flat_map byte_text bytes)
bytes_ascii [] are = IsAscii-nil
bytes_ascii (b ∷ bs) are = digits_ascii b (flat_map byte_text bs) (are 0) (bytes_ascii bs (λ i. are (suc i)))

pub bytes_utf8 : (bytes : List ℕ) → AreBytes bytes → IsUtf8 (flat_map byte_text bytes)
bytes_utf8 bytes are = IsUtf8-from_ascii (flat_map byte_text bytes) (bytes_ascii bytes are)

units_utf8 : (units : List ℕ) → AreUnits units → IsUtf8 (flat_map word_text units)
units_utf8 units are = subst IsUtf8 (unit_digits units) (bytes_utf8 (flat_map unit_bytes units) (AreBytes-units units
    are))

pub code_utf8 : (code : ℕ) → code < 2 ^ 16 → IsUtf8 (word_text code)
code_utf8 code small =
    IsUtf8-from_ascii (word_text code) (digits_ascii (code / 256) (byte_text (code % 256)) (omega (arith, small))
    (digits_ascii (code % 256) [] (omega arith) IsAscii-nil))

pub digits_one : DigitsAreOne
digits_one = record {
  bytes_back = digits_back;
  bytes_one = bytes_are;
  units_back = units_back;
  units_one = units_are;
  bytes_texts = bytes_utf8;
  units_texts = units_utf8;
}
