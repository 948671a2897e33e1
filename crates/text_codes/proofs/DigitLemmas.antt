-- Digits are a text.
use Rattle.std.proofs.Common.{List, ℕ, MatchResult, IsOk, Result, Ok, Err, refl, [], ◌∷◌, ◌<◌}
use Rattle.std.proofs.Common.{◌≡◌, ◌+◌, ◌-◌, length-drop, ◌*◌, ◌/◌, ◌%◌, ◌≤◌, ◌++◌, ◌∙◌, ap, sym, subst, inl, inr, length, take, drop, slice_set, arith}
use Rattle.std.specs.List.{flat_map}
use Rattle.std.specs.Str.{IsUtf8}
use Rattle.std.proofs.lemmas.Bool.{cases_lt, lt-ltb, le-ltb}
use Rattle.std.proofs.lemmas.Grind.{flat_map-append}
use Rattle.std.proofs.Math.Seq.{take-add}
use Rattle.std.proofs.lemmas.List.{length-take-le}
use Rattle.std.proofs.lemmas.Str.{IsUtf8-append}
use Rattle.text_codes.specs.Digits.{byte_text, bytes_text}
use Rattle.text_codes.specs.Shown.{hex_digit}
use Rattle.text_codes.proofs.BlockLemmas.{take-two_set}
use Rattle.std.proofs.lemmas.Str.Ascii.{IsAscii-cons, IsAscii-nil}
use Rattle.std.proofs.lemmas.Str.{IsUtf8-from_ascii}

-- two bytes below 128 are a text
pub two_are_utf8 : (a b : ℕ) → a < 128 → b < 128 → IsUtf8 (a ∷ b ∷ [])
two_are_utf8 a b la lb = IsUtf8-from_ascii (a ∷ b ∷ []) (IsAscii-cons a (b ∷ []) la (IsAscii-cons b [] lb IsAscii-nil))

-- what cannot be refused is there
pub accepted : {A E : Type 0} (P : A → Type 0) (Q : E → Type 0) (b : List ℕ) (r : Result A E) → IsUtf8 b →
    MatchResult r P (λ e. ¬ (IsUtf8 b) × Q e) → IsOk r
accepted P Q b (Ok a) valid m = refl
accepted P Q b (Err e) valid m = absurd (m.0 valid)

-- a digit is ASCII
pub hex_ascii : (number : ℕ) → number < 16 → hex_digit number < 128
hex_ascii number small = elim (cases_lt number 10) [
  | inl low ↦ rw (lt-ltb number 10 low) (omega (arith, low))
  | inr high ↦ rw (le-ltb number 10 high) (omega (arith, high, small))
]

-- the digits of one byte more
pub digits_more : (bytes block : List ℕ) (count byte : ℕ) → 2 * count + 2 ≤ length block → byte < 256 →
    take (2 * count) block ≡ bytes_text (take count bytes) → take (count + 1) bytes ≡ take count bytes ++ byte ∷ [] →
    take (2 * (count + 1))
    (slice_set (slice_set block (2 * count) (hex_digit (byte / 16))) (2 * count + 1) (hex_digit (byte % 16)))
    ≡ bytes_text (take (count + 1) bytes)
digits_more bytes block count byte room small so_far next =
    let at : 2 * (count + 1) ≡ 2 * count + 2 = omega arith in
    rw (
      at,
      take-two_set block (2 * count) (hex_digit (byte / 16)) (hex_digit (byte % 16)) room,
      so_far,
      next,
      flat_map-append byte_text (take count bytes) (byte ∷ []),
    ) refl

-- are a text
pub digits_valid : (bytes : List ℕ) (count byte : ℕ) → byte < 256 → IsUtf8 (bytes_text (take count bytes)) →
    take (count + 1) bytes ≡ take count bytes ++ byte ∷ [] → IsUtf8 (bytes_text (take (count + 1) bytes))
digits_valid bytes count byte small so_far next =
    rw (next, flat_map-append byte_text (take count bytes) (byte ∷ []))
    (IsUtf8-append (bytes_text (take count bytes)) (byte_text byte) so_far
    (two_are_utf8 (hex_digit (byte / 16)) (hex_digit (byte % 16)) (hex_ascii (byte / 16) (omega (arith, small)))
    (hex_ascii (byte % 16) (omega arith))))

-- the digits of the bytes up to a place, and of those behind it
pub digits_behind : (bytes : List ℕ) (done count : ℕ) →
    bytes_text (take (done + count) bytes)
    ≡ bytes_text (take done bytes) ++ bytes_text (take count (drop done bytes))
digits_behind bytes done count =
    ap bytes_text (take-add done count bytes) ∙ flat_map-append byte_text (take done bytes) (take count (drop done bytes))

-- the bytes from a place on, as a slice has them
abbrev pub part_at : List ℕ → ℕ → ℕ → List ℕ
part_at bytes done count = take (done + count - done) (drop done bytes)

part_is : (bytes : List ℕ) (done count : ℕ) → part_at bytes done count ≡ take count (drop done bytes)
part_is bytes done count = ap (λ n. take n (drop done bytes)) (omega arith)

-- their digits are at the front of a block
pub part_digits : (bytes block : List ℕ) (done count : ℕ) → done + count ≤ length bytes →
    take (2 * length (part_at bytes done count)) block ≡ bytes_text (part_at bytes done count) →
    take (2 * count) block ≡ bytes_text (take count (drop done bytes))
part_digits bytes block done count within digits =
    let len : length (take count (drop done bytes)) ≡ count =
    length-take-le count (drop done bytes) (omega (arith, length-drop done bytes, within)) in
    ap (λ n. take (2 * n) block) (sym len)
    ∙ subst (λ l. take (2 * length l) block ≡ bytes_text l) (part_is bytes done count) digits

-- and are a text
pub part_valid : (bytes block : List ℕ) (done count : ℕ) → done + count ≤ length bytes →
    take (2 * length (part_at bytes done count)) block ≡ bytes_text (part_at bytes done count) →
    IsUtf8 (bytes_text (part_at bytes done count)) → IsUtf8 (take (2 * count) block)
part_valid bytes block done count within digits valid =
    subst IsUtf8 (sym (part_digits bytes block done count within digits))
    (subst (λ l. IsUtf8 (bytes_text l)) (part_is bytes done count) valid)
