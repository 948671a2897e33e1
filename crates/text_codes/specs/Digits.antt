-- Bytes and words as lower-case hexadecimal digits, the highest first.
use Rattle.std.specs.Prelude.{ℕ, ◌/◌, ◌%◌, List, [], ◌∷◌, ◌++◌}
use Rattle.std.specs.List.{flat_map}
use Rattle.text_codes.specs.Shown.{hex_digit}

-- the two digits of a byte
abbrev pub byte_text : ℕ → List ℕ
byte_text byte = hex_digit (byte / 16) ∷ hex_digit (byte % 16) ∷ []

-- the four digits of a word
abbrev pub word_text : ℕ → List ℕ
word_text word = byte_text (word / 256) ++ byte_text (word % 256)

-- the digits of bytes in their order
abbrev pub bytes_text : List ℕ → List ℕ
bytes_text bytes = flat_map byte_text bytes
