use Rattle.std.proofs.Common.{ℕ, [], ◌∷◌, ◌<◌, arith}
use Rattle.std.specs.Str.{IsUtf8}
use Rattle.std.proofs.lemmas.Str.Ascii.{IsAscii-cons, IsAscii-nil}
use Rattle.std.proofs.lemmas.Str.{IsUtf8-from_ascii}
use Rattle.text_codes.proofs.Public.{accepted}
use Rattle.document_commands.proofs.summary_lines.push_escape.Goals as goal

-- a reverse solidus, an x and two bytes below 128 are a text
four_are_utf8 : (a b : ℕ) → a < 128 → b < 128 → IsUtf8 (92 ∷ 120 ∷ a ∷ b ∷ [])
four_are_utf8 a b la lb =
    IsUtf8-from_ascii (92 ∷ 120 ∷ a ∷ b ∷ [])
    (IsAscii-cons 92 (120 ∷ a ∷ b ∷ []) (omega arith) (IsAscii-cons 120 (a ∷ b ∷ []) (omega arith)
    (IsAscii-cons a (b ∷ []) la (IsAscii-cons b [] lb IsAscii-nil))))

pub unwrap-requires : goal.unwrap-requires
unwrap-requires c =
    accepted _ _ _ c.from_utf8.result (four_are_utf8 c.hex_digit.result c.hex_digit-2.result c.hex_digit.ensures.ascii
    c.hex_digit-2.ensures.ascii) c.from_utf8.ensures.cases
