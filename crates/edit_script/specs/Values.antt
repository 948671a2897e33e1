-- What single values are read as.
use Rattle.std.specs.Prelude.{ℕ, ◌^◌, Bool, true, false, List, flat_map, chars, bytes_eq, codes, Option, Some, None}
use Rattle.std.specs.Prelude.{option_map, if◌then◌else◌}
use Rattle.std.specs.Char.Escape.{encode_utf16}
use Rattle.std.specs.FinMap.{empty, insert}
use Rattle.serde_json.specs.Data.{Data, Members, no_members, member}
use Rattle.serde_json.specs.Find.{as_array, as_number, as_object, as_str, as_u64}
use Rattle.doc_bits.specs.declared.places.Story.{Story}
use Rattle.prop_map.specs.Settings.{Properties}
use Rattle.edit_script.specs.Json.{◌>>=◌, each_of}
use Rattle.edit_script.specs.Hex.{bytes_of_digits, code_of_digits}
use Rattle.edit_script.specs.Stories.{below, story_with_name}

-- a whole number below the limit; what is written with a point, an exponent or as -0, and what 64 bits do not hold,
-- is none
abbrev pub whole_number : ℕ → Data → Option ℕ
whole_number limit value = as_number value >>= as_u64 >>= below limit

-- a place in a text, or a limit of one
abbrev pub position : Data → Option ℕ
position = whole_number (2 ^ 32)

-- a number of 16 bits
abbrev pub short_number : Data → Option ℕ
short_number = whole_number (2 ^ 16)

-- a number of 8 bits
abbrev pub byte_number : Data → Option ℕ
byte_number = whole_number (2 ^ 8)

-- a text of a document
abbrev pub story_of : Data → Option Story
story_of value = as_str value >>= story_with_name

-- the 16-bit units of a text
abbrev pub utf16 : List ℕ → List ℕ
utf16 text = flat_map encode_utf16 (chars text)

abbrev pub string_units : Data → Option (List ℕ)
string_units value = option_map utf16 (as_str value)

-- the texts of a row's cells
abbrev pub cell_texts_of : Data → Option (List (List ℕ))
cell_texts_of value = as_array value >>= each_of string_units

-- bytes as two digits each
abbrev pub bytes_of : Data → Option (List ℕ)
bytes_of value = as_str value >>= bytes_of_digits

-- the properties where each member in turn was put into these: its key is a code, its value the bytes of the operand's
-- value
abbrev pub properties_put : Members → Properties → Option Properties
properties_put no_members set = Some set
properties_put (member key value more) set = do
  code ← code_of_digits key
  bytes ← bytes_of value
  properties_put more (insert set code bytes)

-- the properties that an object spells
abbrev pub properties_of : Data → Option Properties
properties_of value = do
  members ← as_object value
  properties_put members empty

-- whether a save is a full one
abbrev pub mode_with_name : List ℕ → Option Bool
mode_with_name word =
    if bytes_eq word (codes "full") then Some true else
    if bytes_eq word (codes "fast") then Some false else None

abbrev pub mode_of : Data → Option Bool
mode_of value = as_str value >>= mode_with_name
