-- Bytes and 16-bit units as lower-case hexadecimal digits: two a byte, four a unit, the highest first.
use Rattle.std.specs.Prelude.{◌≡◌, ℕ, ◌+◌, ◌*◌, ◌<◌, ◌^◌, List, [], ◌∷◌, slice_index, flat_map}
use Rattle.std.specs.Prelude.{Option, Some, None, option_map}
use Rattle.serde_json.specs.Data.{Data, string}
use Rattle.text_codes.specs.Digits.{byte_text, word_text}
use Rattle.doc_bits.specs.Number.{AreBytes}
use Rattle.edit_script.specs.Json.{◌>>=◌}
use Rattle.edit_script.specs.Values.{bytes_of}
use Rattle.json_values.specs.Plain.{HasTexts}

-- the value that represents bytes
abbrev pub bytes_json : List ℕ → Data
bytes_json bytes = string (flat_map byte_text bytes)

-- the value that represents units
abbrev pub units_json : List ℕ → Data
units_json units = string (flat_map word_text units)

-- the units of bytes, two each
unfoldable pub units_of_bytes : List ℕ → Option (List ℕ)
units_of_bytes [] = Some []
units_of_bytes (one ∷ []) = None
units_of_bytes (high ∷ low ∷ rest) = option_map (λ units. (256 * high + low) ∷ units) (units_of_bytes rest)

-- the units that a value represents
abbrev pub hex_units_of : Data → Option (List ℕ)
hex_units_of value = bytes_of value >>= units_of_bytes

-- each of them is a number of 16 bits
abbrev pub AreUnits : List ℕ → Type 0
AreUnits units = (i : ℕ) → slice_index units i < 2 ^ 16

-- bytes have one value that represents them, a text, and so have units; other values represent none
pub record DigitsAreOne : Type 0 where
  pub bytes_back : (bytes : List ℕ) → AreBytes bytes → bytes_of (bytes_json bytes) ≡ Some bytes
  pub bytes_one : (value : Data) (bytes : List ℕ) → bytes_of value ≡ Some bytes →
      AreBytes bytes × (value ≡ bytes_json bytes)
  pub units_back : (units : List ℕ) → AreUnits units → hex_units_of (units_json units) ≡ Some units
  pub units_one : (value : Data) (units : List ℕ) → hex_units_of value ≡ Some units →
      AreUnits units × (value ≡ units_json units)
  pub bytes_texts : (bytes : List ℕ) → AreBytes bytes → HasTexts (bytes_json bytes)
  pub units_texts : (units : List ℕ) → AreUnits units → HasTexts (units_json units)
