-- The units of a text, character by character.
use Rattle.std.proofs.Common.{◌≡◌, ℕ, List, [], ◌∷◌, ◌++◌, length, sym, ap, ◌∙◌, append_assoc, append-nil, arith}
use Rattle.std.specs.Prelude.{IsUtf8, encode_utf8, flat_map}
use Rattle.std.specs.Char.Escape.{encode_utf16}
use Rattle.std.proofs.lemmas.Str.{chars-nil, chars_past_char, IsUtf8-past_char}
use Rattle.edit_script.specs.Values.{utf16}

pub one_more : (text left rest units grown : List ℕ) (character : ℕ) → IsUtf8 left → left ≡ encode_utf8 character ++
    rest → grown ≡ units ++ encode_utf16 character → units ++ utf16 left ≡ utf16 text → IsUtf8 rest × (grown ++ utf16
    rest ≡ utf16 text)
one_more text left rest units grown character utf8 is grows so_far = (
  IsUtf8-past_char left rest character utf8 is,
  ap (λ us. us ++ utf16 rest) grows ∙ append_assoc units (encode_utf16 character) (utf16 rest)
      ∙ ap (λ cs. units ++ flat_map encode_utf16 cs) (sym (chars_past_char left rest character utf8 is)) ∙ so_far,
)

pub no_more : (text left units : List ℕ) → length left ≡ 0 → units ++ utf16 left ≡ utf16 text → units ≡ utf16 text
no_more text [] units none so_far = sym (append-nil units) ∙ ap (λ cs. units ++ flat_map encode_utf16 cs)
    (sym chars-nil) ∙ so_far
no_more text (c ∷ cs) units none so_far = absurd (omega (arith, none))
