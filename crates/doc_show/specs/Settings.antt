-- The text of properties. All hexadecimal digits are lower-case.
use Rattle.std.specs.Prelude.{ℕ, List, [], ◌∷◌, ◌++◌}
use Rattle.std.specs.List.{flat_map}
use Rattle.std.specs.FinMap.{entries}
use Rattle.text_codes.specs.Digits.{bytes_text, word_text}
use Rattle.sprm_table.specs.Sprm.{Prl}
use Rattle.prop_map.specs.Settings.{Properties}

-- the bytes of a value in their order
abbrev pub value_text : List ℕ → List ℕ
value_text value = bytes_text value

-- a code and its value: a space, the code, an equals sign, the value
abbrev pub property_text : Prl → List ℕ
property_text prl = 32 ∷ [] ++ (word_text prl.0 ++ (61 ∷ [] ++ value_text prl.1))

-- the codes ascending
abbrev pub properties_text : Properties → List ℕ
properties_text map = flat_map property_text (entries map)
