-- How a shown text goes on: by a pair, or by a unit alone.
use Rattle.std.proofs.Common.{◌≡◌, ℕ, Bool, true, false, List, [], ◌∷◌, ◌++◌, refl, sym, ◌∙◌, ◌&&◌, nat_le, nat_lt}
use Rattle.std.proofs.Common.{append_assoc, encode_utf8}
use Rattle.std.proofs.lemmas.List.{append-nil}
use Rattle.std.proofs.Common.{◌<◌, lit<}
use Rattle.std.specs.Str.{IsUtf8}
use Rattle.std.proofs.lemmas.Str.Ascii.{IsAscii-cons, IsAscii-nil}
use Rattle.std.proofs.lemmas.Str.{IsUtf8-from_ascii}
use Rattle.text_codes.specs.Shown.{shown_text, shown_alone, is_pair, pair_code}

-- a pair is one character
pub shown-pair : (lines : Bool) (first second : ℕ) (rest : List ℕ) → is_pair first second ≡ true →
    shown_text lines (first ∷ second ∷ rest) ≡ encode_utf8 (pair_code first second) ++ shown_text lines rest
unfolding shown_text
shown-pair lines first second rest e = rw e refl

-- a unit that is in no pair with the next one is shown alone
pub shown-apart : (lines : Bool) (first second : ℕ) (rest : List ℕ) → is_pair first second ≡ false →
    shown_text lines (first ∷ second ∷ rest) ≡ shown_alone lines first ++ shown_text lines (second ∷ rest)
unfolding shown_text
shown-apart lines first second rest e = rw e refl

-- the last unit is shown alone
pub shown-last : (lines : Bool) (unit : ℕ) → shown_text lines (unit ∷ []) ≡ shown_alone lines unit
unfolding shown_text
shown-last lines unit = refl

-- no units are shown as nothing
pub shown-nil : (lines : Bool) → shown_text lines [] ≡ []
unfolding shown_text
shown-nil lines = refl

-- a text goes on by a pair
pub completed-pair : (lines : Bool) (text more : List ℕ) (first second : ℕ) (rest : List ℕ) →
    is_pair first second ≡ true → more ≡ text ++ encode_utf8 (pair_code first second) →
    more ++ shown_text lines rest ≡ text ++ shown_text lines (first ∷ second ∷ rest)
completed-pair lines text more first second rest e m = rw (m, shown-pair lines first second rest e, append_assoc) refl

-- a text goes on by a unit alone
pub completed-apart : (lines : Bool) (text more : List ℕ) (first second : ℕ) (rest : List ℕ) →
    is_pair first second ≡ false → more ≡ text ++ shown_alone lines first →
    more ++ shown_text lines (second ∷ rest) ≡ text ++ shown_text lines (first ∷ second ∷ rest)
completed-apart lines text more first second rest e m = rw (m, shown-apart lines first second rest e, append_assoc) refl

pub apart_low : (low high more : Bool) → (low && high) ≡ false → (low && (high && more)) ≡ false
apart_low false high more e = refl
apart_low true false more e = refl
apart_low true true more e = absurd (cc (e))

-- a unit that begins no pair is shown alone, whatever follows
pub shown-first : (lines : Bool) (unit : ℕ) (rest : List ℕ) → (nat_le 0xD800 unit && nat_lt unit 0xDC00) ≡ false →
    shown_text lines (unit ∷ rest) ≡ shown_alone lines unit ++ shown_text lines rest
shown-first lines unit [] e = shown-last lines unit ∙ rw (shown-nil lines) (sym (append-nil (shown_alone lines unit)))
shown-first lines unit (next ∷ rest) e = shown-apart lines unit next rest
    (apart_low (nat_le 0xD800 unit) (nat_lt unit 0xDC00) _ e)

-- a text goes on by a unit that begins no pair
pub completed-first : (lines : Bool) (text more : List ℕ) (unit : ℕ) (rest : List ℕ) →
    (nat_le 0xD800 unit && nat_lt unit 0xDC00) ≡ false → more ≡ text ++ shown_alone lines unit →
    more ++ shown_text lines rest ≡ text ++ shown_text lines (unit ∷ rest)
completed-first lines text more unit rest e m = rw (m, shown-first lines unit rest e, append_assoc) refl

-- six bytes below 128 are a text
pub six_are_utf8 : (a b c d : ℕ) → a < 128 → b < 128 → c < 128 → d < 128 → IsUtf8 (92 ∷ 117 ∷ a ∷ b ∷ c ∷ d ∷ [])
six_are_utf8 a b c d la lb lc ld =
    IsUtf8-from_ascii (92 ∷ 117 ∷ a ∷ b ∷ c ∷ d ∷ []) (IsAscii-cons 92 (117 ∷ a ∷ b ∷ c ∷ d ∷ []) (lit< tt)
    (IsAscii-cons 117 (a ∷ b ∷ c ∷ d ∷ []) (lit< tt) (IsAscii-cons a (b ∷ c ∷ d ∷ []) la
    (IsAscii-cons b (c ∷ d ∷ []) lb (IsAscii-cons c (d ∷ []) lc (IsAscii-cons d [] ld IsAscii-nil))))))
