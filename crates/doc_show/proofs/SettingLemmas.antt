-- The text of a property is a text.
use Rattle.std.proofs.Common.{ℕ, [], ◌∷◌, ◌<◌, arith}
use Rattle.std.specs.Str.{IsUtf8, IsAscii}
use Rattle.std.proofs.lemmas.Str.Ascii.{IsAscii-cons, IsAscii-nil}
use Rattle.std.proofs.lemmas.Str.{IsUtf8-from_ascii}

-- a space, four bytes below 128, an equals sign, and two more
pub property_is_utf8 : (a b c d e f : ℕ) → a < 128 → b < 128 → c < 128 → d < 128 → e < 128 → f < 128 → IsUtf8
    (32 ∷ a ∷ b ∷ c ∷ d ∷ 61 ∷ e ∷ f ∷ [])
property_is_utf8 a b c d e f la lb lc ld le lf =
    let value : IsAscii (61 ∷ e ∷ f ∷ []) = IsAscii-cons 61 (e ∷ f ∷ []) (omega arith) (IsAscii-cons e (f ∷ []) le
    (IsAscii-cons f [] lf IsAscii-nil)) in
    let low : IsAscii (c ∷ d ∷ 61 ∷ e ∷ f ∷ []) = IsAscii-cons c (d ∷ 61 ∷ e ∷ f ∷ []) lc (IsAscii-cons d
    (61 ∷ e ∷ f ∷ []) ld value) in
    let high : IsAscii (a ∷ b ∷ c ∷ d ∷ 61 ∷ e ∷ f ∷ []) = IsAscii-cons a (b ∷ c ∷ d ∷ 61 ∷ e ∷ f ∷ []) la
    (IsAscii-cons b (c ∷ d ∷ 61 ∷ e ∷ f ∷ []) lb low) in
    IsUtf8-from_ascii (32 ∷ a ∷ b ∷ c ∷ d ∷ 61 ∷ e ∷ f ∷ []) (IsAscii-cons 32 (a ∷ b ∷ c ∷ d ∷ 61 ∷ e ∷ f ∷ [])
    (omega arith) high)
