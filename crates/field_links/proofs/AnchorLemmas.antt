-- Anchors of different names differ.
use Rattle.std.proofs.Common.{◌≡◌, ℕ, zero, suc, ◌-◌, ◌/◌, ◌%◌, ◌<◌, ◌≤◌, ◌==◌, ◌&&◌, nat_le, nat_lt, Bool}
use Rattle.std.proofs.Common.{true, false, not, List, [], ◌∷◌, ◌++◌, ◌⊎◌, inl, inr, length, refl, sym, ap}
use Rattle.std.proofs.Common.{subst, ◌∙◌, arith}
use Rattle.std.specs.Prelude.{codes, if◌then◌else◌}
use Rattle.std.specs.List.{flat_map}
use Rattle.std.proofs.lemmas.Bool.{agree_below_at, and_parts, eqb-true, leb-true, ltb-true, not-true}
use Rattle.text_codes.specs.Shown.{hex_digit, is_pair, pair_code}
use Rattle.field_links.specs.Characters.{character_alone, characters, is_utf16, is_bmp_scalar}
use Rattle.field_links.specs.Urls.{anchor_character, anchor_text, hex_text, is_anchor_character}
use Rattle.field_links.specs.Laws.{AnchorsDiffer}
use Rattle.field_links.proofs.UrlLemmas.{numbered, numbered-low}
use Rattle.text_codes.specs.Halves.{is_surrogate}

-- ---- digits

-- the number of a digit
abbrev digit_number : ℕ → ℕ
digit_number digit = if nat_lt digit 58 then digit - 48 else digit - 87

number_back : (number : ℕ) → number < 16 → digit_number (hex_digit number) ≡ number
number_back number small =
    eqb-true (digit_number (hex_digit number)) number
    (agree_below_at (λ n. digit_number (hex_digit n) == n) (λ n. true) 16 number refl small)

hex_same : (one other : ℕ) → one < 16 → other < 16 → hex_digit one ≡ hex_digit other → one ≡ other
hex_same one other a b e = sym (number_back one a) ∙ (ap digit_number e ∙ number_back other b)

-- ---- the text of one character

record AreSame (x y : ℕ) (xs ys : List ℕ) : Type 0 where
  here : x ≡ y
  more : xs ≡ ys

from_cons : (x y : ℕ) (xs ys : List ℕ) → x ∷ xs ≡ y ∷ ys → AreSame x y xs ys
from_cons x y xs ys e = record { here = cc; more = cc }

from_digits : (x y : ℕ) (xs ys : List ℕ) → x < 160 → y < 160 → 46 ∷ hex_digit (x / 16) ∷ hex_digit (x % 16) ∷ 46 ∷ xs ≡
    46 ∷ hex_digit (y / 16) ∷ hex_digit (y % 16) ∷ 46 ∷ ys → AreSame x y xs ys
from_digits x y xs ys a b e =
    let first : hex_digit (x / 16) ≡ hex_digit (y / 16) = cc (e) in
    let second : hex_digit (x % 16) ≡ hex_digit (y % 16) = cc (e) in
    let high = hex_same (x / 16) (y / 16) (omega (arith, a)) (omega (arith, b)) first in
    let low = hex_same (x % 16) (y % 16) (omega arith) (omega arith) second in
    record { here = omega (arith, high, low); more = cc (e) }

-- two digits are not four
never : (xs ys : List ℕ) (high low : ℕ) → 46 ∷ high ∷ low ∷ 46 ∷ xs ≡ 46 ∷ 102 ∷ 102 ∷ 102 ∷ 100 ∷ 46 ∷ ys → ⊥
never xs ys high low e = let no : ◌≡◌ {A = ℕ} 46 102 = cc (e) in absurd (omega (arith, no))

from_numbers : (x y : ℕ) (xs ys : List ℕ) → (x < 160) ⊎ (x ≡ 65533) → (y < 160) ⊎ (y ≡ 65533) →
    (46 ∷ (hex_text x ++ 46 ∷ [])) ++ xs ≡ (46 ∷ (hex_text y ++ 46 ∷ [])) ++ ys → AreSame x y xs ys
from_numbers x y xs ys (inl a) (inl b) e =
    from_digits x y xs ys a b (sym (ap (λ text. text ++ xs) (numbered-low x a)) ∙ (e ∙ ap (λ text. text ++ ys)
    (numbered-low y b)))
from_numbers x y xs ys (inl a) (inr b) e =
    let at : (46 ∷ (hex_text y ++ 46 ∷ [])) ++ ys ≡ 46 ∷ 102 ∷ 102 ∷ 102 ∷ 100 ∷ 46 ∷ ys = rw b refl in
    let no = never xs ys (hex_digit (x / 16)) (hex_digit (x % 16)) (sym (ap (λ text. text ++ xs) (numbered-low x a)) ∙ (e
    ∙ at)) in
    absurd no
from_numbers x y xs ys (inr a) (inl b) e =
    let at : (46 ∷ (hex_text x ++ 46 ∷ [])) ++ xs ≡ 46 ∷ 102 ∷ 102 ∷ 102 ∷ 100 ∷ 46 ∷ xs = rw a refl in
    let no = never ys xs (hex_digit (y / 16)) (hex_digit (y % 16)) (sym (ap (λ text. text ++ ys) (numbered-low y b)) ∙
    (sym e ∙ at)) in
    absurd no
from_numbers x y xs ys (inr a) (inr b) e =
    let one : (46 ∷ (hex_text x ++ 46 ∷ [])) ++ xs ≡ 46 ∷ 102 ∷ 102 ∷ 102 ∷ 100 ∷ 46 ∷ xs = rw a refl in
    let other : (46 ∷ (hex_text y ++ 46 ∷ [])) ++ ys ≡ 46 ∷ 102 ∷ 102 ∷ 102 ∷ 100 ∷ 46 ∷ ys = rw b refl in
    let all : 46 ∷ 102 ∷ 102 ∷ 102 ∷ 100 ∷ 46 ∷ xs ≡ 46 ∷ 102 ∷ 102 ∷ 102 ∷ 100 ∷ 46 ∷ ys = sym one ∙ (e ∙ other) in
    record { here = a ∙ sym b; more = cc (all) }

-- a full stop represents no character itself
no_stop : (x y : ℕ) (xs ys : List ℕ) → is_anchor_character x ≡ true → x ∷ xs ≡ (46 ∷ (hex_text y ++ 46 ∷ [])) ++ ys →
    AreSame x y xs ys
no_stop x y xs ys stays e =
    let stop : x ≡ 46 = (from_cons x 46 xs ((hex_text y ++ 46 ∷ []) ++ ys) e).here in
    let no : is_anchor_character 46 ≡ true = subst (λ c. is_anchor_character c ≡ true) stop stays in
    absurd (cc (no))

turned : (x y : ℕ) (xs ys : List ℕ) → AreSame y x ys xs → AreSame x y xs ys
turned x y xs ys same = record { here = sym same.here; more = sym same.more }

abbrev text_by : Bool → ℕ → List ℕ
text_by stays code = if stays then code ∷ [] else 46 ∷ (hex_text code ++ 46 ∷ [])

same_by : (a b : Bool) (x y : ℕ) (xs ys : List ℕ) → is_anchor_character x ≡ a → is_anchor_character y ≡ b →
    text_by a x ++ xs ≡ text_by b y ++ ys → AreSame x y xs ys
same_by true true x y xs ys p q e = from_cons x y xs ys e
same_by true false x y xs ys p q e = no_stop x y xs ys p e
same_by false true x y xs ys p q e = turned x y xs ys (no_stop y x ys xs q (sym e))
same_by false false x y xs ys p q e = from_numbers x y xs ys (numbered x p) (numbered y q) e

some_text : (stays : Bool) (code : ℕ) (more : List ℕ) → [] ≡ text_by stays code ++ more → ⊥
some_text true code more e = absurd (cc (e))
some_text false code more e = absurd (cc (e))

-- the characters of a text are read back
texts_same : (xs ys : List ℕ) → flat_map anchor_character xs ≡ flat_map anchor_character ys → xs ≡ ys
texts_same [] [] e = refl
texts_same [] (y ∷ ys) e = absurd (some_text (is_anchor_character y) y (flat_map anchor_character ys) e)
texts_same (x ∷ xs) [] e = absurd (some_text (is_anchor_character x) x (flat_map anchor_character xs) (sym e))
texts_same (x ∷ xs) (y ∷ ys) e =
    let same = same_by (is_anchor_character x) (is_anchor_character y) x y (flat_map anchor_character xs) (flat_map
    anchor_character ys) refl refl e in
    let here = same.here in let more = texts_same xs ys same.more in cc

-- ---- the characters of units

-- a unit that is a character itself
record IsAlone (x : ℕ) (xs : List ℕ) : Type 0 where
  small : x < 0x10000
  text : characters (x ∷ xs) ≡ x ∷ characters xs
  more : is_utf16 xs ≡ true

-- the first half of a character
record IsHalf (x : ℕ) (xs : List ℕ) : Type 0 where
  second : ℕ
  rest : List ℕ
  is : xs ≡ second ∷ rest
  pair : is_pair x second ≡ true
  text : characters (x ∷ xs) ≡ pair_code x second ∷ characters rest
  more : is_utf16 rest ≡ true

whole_alone : (x : ℕ) → is_bmp_scalar x ≡ true → character_alone x ≡ x
whole_alone x e =
    let parts = and_parts (nat_lt x 0x10000) (not (is_surrogate x)) e in
    let no = not-true (is_surrogate x) parts.1 in rw no refl

whole_small : (x : ℕ) → is_bmp_scalar x ≡ true → x < 0x10000
whole_small x e = ltb-true x 0x10000 (and_parts (nat_lt x 0x10000) (not (is_surrogate x)) e).0

alone : (x y : ℕ) (ys : List ℕ) → is_pair x y ≡ false → (is_bmp_scalar x && is_utf16 (y ∷ ys)) ≡ true → IsAlone x (y ∷
    ys)
unfolding characters
alone x y ys p h =
    let parts = and_parts (is_bmp_scalar x) (is_utf16 (y ∷ ys)) h in
    record {
      small = whole_small x parts.0;
      text = rw p (ap (λ c. c ∷ characters (y ∷ ys)) (whole_alone x parts.0));
      more = parts.1;
    }

half : (x y : ℕ) (ys : List ℕ) → is_pair x y ≡ true → is_utf16 ys ≡ true → IsHalf x (y ∷ ys)
unfolding characters
half x y ys p h = record { second = y; rest = ys; is = refl; pair = p; text = rw p refl; more = h }

first_of : (x : ℕ) (xs : List ℕ) → is_utf16 (x ∷ xs) ≡ true → IsAlone x xs ⊎ IsHalf x xs
unfolding characters is_utf16
first_of x [] e = inl (record {
  small = whole_small x e;
  text = ap (λ c. c ∷ []) (whole_alone x e);
  more = refl;
})
first_of x (y ∷ ys) e =
    elim (is_pair x y) as (λ b. is_pair x y ≡ b → (if b then is_utf16 ys else is_bmp_scalar x && is_utf16 (y ∷ ys)) ≡
    true →
    IsAlone x (y ∷ ys) ⊎ IsHalf x (y ∷ ys)) [
      | true ↦ λ p h. inr (half x y ys p h)
      | false ↦ λ p h. inl (alone x y ys p h)
    ] refl e

record AreHalves (first second : ℕ) : Type 0 where
  high : 0xD800 ≤ first
  below : first < 0xDC00
  low : 0xDC00 ≤ second
  end : second < 0xE000

halves : (first second : ℕ) → is_pair first second ≡ true → AreHalves first second
halves first second e =
    let one = and_parts (nat_le 0xD800 first) (nat_lt first 0xDC00 && (nat_le 0xDC00 second && nat_lt second 0xE000)) e in
    let two = and_parts (nat_lt first 0xDC00) (nat_le 0xDC00 second && nat_lt second 0xE000) one.1 in
    let three = and_parts (nat_le 0xDC00 second) (nat_lt second 0xE000) two.1 in
    record {
      high = leb-true 0xD800 first one.0;
      below = ltb-true first 0xDC00 two.0;
      low = leb-true 0xDC00 second three.0;
      end = ltb-true second 0xE000 three.1;
    }

pair_same : (a b c d : ℕ) → AreHalves a b → AreHalves c d → pair_code a b ≡ pair_code c d → (a ≡ c) × (b ≡ d)
pair_same a b c d p q e =
    let p1 = p.high in let p2 = p.below in let p3 = p.low in let p4 = p.end in
    let q1 = q.high in let q2 = q.below in let q3 = q.low in let q4 = q.end in
    (omega (arith, p1, p2, p3, p4, q1, q2, q3, q4, e), omega (arith, p1, p2, p3, p4, q1, q2, q3, q4, e))

no_pair : (x a b : ℕ) → x < 0x10000 → x ≡ pair_code a b → ⊥
no_pair x a b small e = absurd (omega (arith, small, e))

some_first : (x : ℕ) (xs : List ℕ) → IsAlone x xs ⊎ IsHalf x xs → [] ≡ characters (x ∷ xs) → ⊥
some_first x xs (inl one) e = absurd (cc (e, one.text))
some_first x xs (inr two) e = absurd (cc (e, two.text))

units_by : (n : ℕ) (x y : ℕ) (xs ys : List ℕ) → ((one other : List ℕ) → length one ≤ n → is_utf16 one ≡ true → is_utf16
    other ≡ true → characters one ≡ characters other → one ≡ other) → length xs ≤ n → IsAlone x xs ⊎ IsHalf x xs →
    IsAlone y ys ⊎ IsHalf y ys → characters (x ∷ xs) ≡ characters (y ∷ ys) → x ∷ xs ≡ y ∷ ys
units_by n x y xs ys again short (inl a) (inl b) e =
    let same = from_cons x y (characters xs) (characters ys) (sym a.text ∙ (e ∙ b.text)) in
    let here = same.here in let more = again xs ys short a.more b.more same.more in cc
units_by n x y xs ys again short (inl a) (inr b) e =
    let same = from_cons x (pair_code y b.second) (characters xs) (characters b.rest) (sym a.text ∙ (e ∙ b.text)) in
    absurd (no_pair x y b.second a.small same.here)
units_by n x y xs ys again short (inr a) (inl b) e =
    let same = from_cons (pair_code x a.second) y (characters a.rest) (characters ys) (sym a.text ∙ (e ∙ b.text)) in
    absurd (no_pair y x a.second b.small (sym same.here))
units_by n x y xs ys again short (inr a) (inr b) e =
    let same = from_cons (pair_code x a.second) (pair_code y b.second) (characters a.rest) (characters b.rest) (sym a.text
    ∙ (e ∙ b.text)) in
    let codes = pair_same x a.second y b.second (halves x a.second a.pair) (halves y b.second b.pair) same.here in
    let first = codes.0 in let next = codes.1 in
    let shorter : length a.rest ≤ n = (let l = ap length a.is in omega (arith, l, short)) in
    let more = again a.rest b.rest shorter a.more b.more same.more in
    let one = a.is in let other = b.is in cc

units_same : (n : ℕ) (one other : List ℕ) → length one ≤ n → is_utf16 one ≡ true → is_utf16 other ≡ true →
    characters one ≡ characters other → one ≡ other
unfolding characters
units_same n [] [] short a b e = refl
units_same n [] (y ∷ ys) short a b e = absurd (some_first y ys (first_of y ys b) e)
units_same n (x ∷ xs) [] short a b e = absurd (some_first x xs (first_of x xs a) (sym e))
units_same zero (x ∷ xs) (y ∷ ys) short a b e = absurd (omega (arith, short))
units_same (suc n) (x ∷ xs) (y ∷ ys) short a b e =
    units_by n x y xs ys (units_same n) (omega (arith, short)) (first_of x xs a) (first_of y ys b) e

behind_front : (one other : List ℕ) → codes "bm-" ++ one ≡ codes "bm-" ++ other → one ≡ other
behind_front one other e = cc (e)

pub differ : AnchorsDiffer
differ one other a b e =
    units_same (length one) one other (omega arith) a b
    (texts_same (characters one) (characters other) (behind_front (anchor_text one) (anchor_text other) e))
