-- How the bytes of units come to be in a block.
use Rattle.std.proofs.Common.{◌≡◌, ℕ, ◌+◌, ◌/◌, ◌%◌, ◌<◌, ◌≤◌, inl, inr, Bool, true, false, List, [], ◌∷◌, ◌++◌, length}
use Rattle.std.proofs.Common.{take, refl, ◌∙◌, ◌&&◌, ◌||◌, ◌==◌, nat_le, nat_lt, append_assoc, arith}
use Rattle.std.proofs.lemmas.Bool.{cases_lt, le-ltb, lt-ltb, ltb-false, le-leb}
use Rattle.std.specs.Char.{IsScalar, encode_utf8}
use Rattle.std.specs.Prelude.{slice_index, if◌then◌else◌}
use Rattle.std.specs.Str.{IsUtf8}
use Rattle.std.proofs.Common.{lit<, suc, zero, sym, subst, ap, ◌⊎◌}
use Rattle.std.proofs.lemmas.Bool.{lt-leb}
use Rattle.std.proofs.lemmas.List.{take_more, take_all}
use Rattle.std.proofs.Math.Seq.{take-add}
use Rattle.std.proofs.Common.{drop, length-drop, ◌-◌}
use Rattle.std.proofs.lemmas.Str.{IsUtf8-append, IsUtf8-encode, IsUtf8-nil, IsUtf8-from_ascii, encode_ascii}
use Rattle.std.proofs.lemmas.Str.Ascii.{IsAscii-cons, IsAscii-nil}
use Rattle.text_codes.specs.Gathered.{IsShownText, HasTextBehind}
use Rattle.text_codes.specs.Shown.{shown_alone, is_escaped, escape, IsUnescapedAscii}
use Rattle.text_codes.proofs.DigitLemmas.{hex_ascii}
use Rattle.text_codes.proofs.ShownLemmas.{shown-first, six_are_utf8}
use Rattle.doc_bits.proofs.Public.{second_false}

-- a character of two bytes
pub encode_utf8-two : (unit : ℕ) → 128 ≤ unit → unit < 2048 →
    encode_utf8 unit ≡ (192 + unit / 64) ∷ (128 + unit % 64) ∷ []
unfolding encode_utf8
encode_utf8-two unit more less = rw (le-ltb unit 128 more, lt-ltb unit 2048 less) refl

-- a character of three bytes
pub encode_utf8-three : (unit : ℕ) → 2048 ≤ unit → unit < 65536 →
    encode_utf8 unit ≡ (224 + unit / 4096) ∷ (128 + unit / 64 % 64) ∷ (128 + unit % 64) ∷ []
unfolding encode_utf8
encode_utf8-three unit more less =
    rw (le-ltb unit 128 (omega (arith, more)), le-ltb unit 2048 more, lt-ltb unit 65536 less) refl

no_surrogate : (control solidus low high : Bool) → (control || (solidus || (low && high))) ≡ false →
    (low && high) ≡ false
no_surrogate false false low high e = e
no_surrogate false true low high e = absurd (cc (e))
no_surrogate true solidus low high e = absurd (cc (e))

first_half : (low high middle : Bool) → (low && high) ≡ false → (high ≡ false → middle ≡ false) →
    (low && middle) ≡ false
first_half false high middle e f = refl
first_half true high middle e f = f e

-- a unit that is shown as itself begins no pair
pub alone-from_itself : (unit : ℕ) → is_escaped unit ≡ false → (nat_le 0xD800 unit && nat_lt unit 0xDC00) ≡ false
alone-from_itself unit e =
    first_half (nat_le 0xD800 unit) (nat_lt unit 0xE000) (nat_lt unit 0xDC00)
    (no_surrogate (nat_lt unit 0x20) (unit == 0x5C) (nat_le 0xD800 unit) (nat_lt unit 0xE000) e)
    (λ high. le-ltb unit 0xDC00 (omega (arith, ltb-false unit 0xE000 high)))

-- a unit that is shown as itself is a character
pub scalar-from_itself : (unit : ℕ) → unit < 65536 → is_escaped unit ≡ false → IsScalar unit
scalar-from_itself unit small e =
    elim (cases_lt unit 0xD800) [
      | inl low ↦ rw (lt-ltb unit 0xD800 low) refl
      | inr high ↦
          let above : 0xE000 ≤ unit = ltb-false unit 0xE000
          (second_false (nat_le 0xD800 unit) (nat_lt unit 0xE000)
          (no_surrogate (nat_lt unit 0x20) (unit == 0x5C) (nat_le 0xD800 unit) (nat_lt unit 0xE000) e)
          (le-leb 0xD800 unit high)) in
          rw (le-ltb unit 0xD800 high, le-leb 0xE000 unit above, lt-ltb unit 0x110000 (omega (arith, small))) refl
    ]

-- ---- texts of units, one behind the other

-- no units have no bytes
pub no_text : (lines : Bool) → IsShownText lines [] []
no_text lines = record { valid = IsUtf8-nil; shows = λ after. refl }

-- texts are behind one another as their units do
pub text_joined : (lines : Bool) (units more bytes others : List ℕ) → IsShownText lines units bytes →
    IsShownText lines more others → IsShownText lines (units ++ more) (bytes ++ others)
text_joined lines units more bytes others first second = record {
  valid = IsUtf8-append bytes others first.valid second.valid;
  shows = λ after.
      rw append_assoc (first.shows (more ++ after) ∙ rw (second.shows after, append_assoc) refl);
}

escape_valid : (unit : ℕ) → unit < 65536 → IsUtf8 (escape unit)
unfolding escape
escape_valid unit small =
    six_are_utf8 _ _ _ _ (hex_ascii (unit / 0x1000) (omega (arith, small)))
    (hex_ascii (unit / 0x100 % 16) (omega arith)) (hex_ascii (unit / 0x10 % 16) (omega arith))
    (hex_ascii (unit % 16) (omega arith))

-- what is shown for a unit is a text
shown_valid : (escaped feed : Bool) (unit : ℕ) → unit < 65536 → is_escaped unit ≡ escaped →
    IsUtf8 (if escaped then (if feed then 10 ∷ [] else escape unit) else encode_utf8 unit)
shown_valid false feed unit small e = IsUtf8-encode unit (scalar-from_itself unit small e)
shown_valid true true unit small e = IsUtf8-from_ascii (10 ∷ []) (IsAscii-cons 10 [] (lit< tt) IsAscii-nil)
shown_valid true false unit small e = escape_valid unit small

no_high : (unit : ℕ) → (unit < 0xD800) ⊎ (0xE000 ≤ unit) → (nat_le 0xD800 unit && nat_lt unit 0xDC00) ≡ false
no_high unit (inl low) = rw (lt-leb 0xD800 unit low) refl
no_high unit (inr high) = rw (le-ltb unit 0xDC00 (omega (arith, high)), le-leb 0xD800 unit (omega (arith, high))) refl

-- a unit that is no surrogate is shown alone
pub text_alone : (lines : Bool) (unit : ℕ) → unit < 65536 → (unit < 0xD800) ⊎ (0xE000 ≤ unit) →
    IsShownText lines (unit ∷ []) (shown_alone lines unit)
text_alone lines unit small alone = record {
  valid = shown_valid (is_escaped unit) (lines && unit == 0x0D) unit small refl;
  shows = λ after. shown-first lines unit after (no_high unit alone);
}

plain_one : (lines : Bool) (unit : ℕ) → IsUnescapedAscii unit → IsShownText lines (unit ∷ []) (unit ∷ [])
plain_one lines unit plain =
    let alone : shown_alone lines unit ≡ unit ∷ [] = rw plain.itself (encode_ascii unit plain.ascii) in
    subst (IsShownText lines (unit ∷ [])) alone
    (text_alone lines unit (omega (arith, plain.ascii)) (inl (omega (arith, plain.ascii))))

-- plain units are their own text
pub plain_text : (lines : Bool) (units : List ℕ) (count : ℕ) → count ≤ length units →
    ((k : ℕ) → k < count → IsUnescapedAscii (slice_index units k)) → IsShownText lines (take count units) (take count
    units)
plain_text lines units zero within plain = no_text lines
plain_text lines units (suc count) within plain =
    let one : suc count ≡ count + 1 = omega arith in
    let next : take (suc count) units ≡ take count units ++ slice_index units count ∷ [] =
    ap (λ n. take n units) one ∙ take_more units count 0 (omega (arith, within)) in
    subst (λ l. IsShownText lines l l) (sym next)
    (text_joined lines (take count units) (slice_index units count ∷ []) (take count units)
    (slice_index units count ∷ [])
    (plain_text lines units count (omega (arith, within)) (λ k below. plain k (omega (arith, below))))
    (plain_one lines (slice_index units count) (plain count (omega arith))))

-- a text behind a front grows by the bytes of more units
pub behind_more : (lines : Bool) (units more front block new others : List ℕ) (end after : ℕ) →
    HasTextBehind lines units front block end → IsShownText lines more others →
    take after new ≡ take end block ++ others → after ≤ length new →
    HasTextBehind lines (units ++ more) front new after
behind_more lines units more front block new others end after so_far text bytes_are room = record {
  bytes = so_far.bytes ++ others;
  text = text_joined lines units more so_far.bytes others so_far.text text;
  grown = bytes_are ∙ rw (so_far.grown, append_assoc) refl;
  room = room;
}

-- the text at the front of a block grows by that of more units
pub text_grown : (lines : Bool) (units block new : List ℕ) (count more len end : ℕ) →
    IsShownText lines (take count units) (take len block) →
    HasTextBehind lines (take more (take (length units - count) (drop count units))) (take len block) new end →
    IsShownText lines (take (count + more) units) (take end new)
text_grown lines units block new count more len end front behind =
    let rest : List ℕ = drop count units in
    let whole : take (length units - count) rest ≡ rest =
    take_all (length units - count) rest (omega (arith, length-drop count units)) in
    rw (take-add count more units, behind.grown)
    (text_joined lines (take count units) (take more rest) (take len block) behind.bytes front
    (subst (λ l. IsShownText lines (take more l) behind.bytes) whole behind.text))
