-- Bytes as lower-case hexadecimal, two digits a byte.
use Rattle.std.specs.Prelude.{ℕ, ◌+◌, ◌-◌, ◌*◌, ◌&&◌, nat_le, List, [], ◌∷◌, Option, Some, None, if◌then◌else◌}
use Rattle.edit_script.specs.Json.{◌>>=◌}

-- the number of a digit, by the code of its character
abbrev pub digit_of : ℕ → Option ℕ
digit_of character =
    if nat_le 48 character && nat_le character 57 then Some (character - 48) else
    if nat_le 97 character && nat_le character 102 then Some (character - 87) else None

-- the byte of two digits
abbrev pub byte_of_digits : ℕ → ℕ → Option ℕ
byte_of_digits high low = do
  upper ← digit_of high
  lower ← digit_of low
  Some (16 * upper + lower)

-- the bytes of a text of digits
unfoldable pub bytes_of_digits : List ℕ → Option (List ℕ)
bytes_of_digits [] = Some []
bytes_of_digits (one ∷ []) = None
bytes_of_digits (high ∷ low ∷ rest) = do
  byte ← byte_of_digits high low
  bytes ← bytes_of_digits rest
  Some (byte ∷ bytes)

-- the number of four digits
abbrev pub code_of_digits : List ℕ → Option ℕ
code_of_digits (a ∷ b ∷ c ∷ d ∷ []) = do
  high ← byte_of_digits a b
  low ← byte_of_digits c d
  Some (256 * high + low)
code_of_digits _ = None
