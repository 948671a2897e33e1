-- The written stream: the kept bytes, and one property set at 48 with padded values, each written once.
use Rattle.std.specs.Prelude.{ℕ, ◌+◌, ◌-◌, ◌*◌, ◌%◌, Bool, ◌==◌, if◌then◌else◌, List, [], ◌∷◌, ◌++◌, length, map, ◌≤◌}
use Rattle.std.specs.Prelude.{All}
use Rattle.std.specs.Prelude.{slice_range, sum_by, flat_map}
use Rattle.std.specs.List.{list_any}
use Rattle.doc_bits.specs.Number.{number_bytes, zeros}
use Rattle.summary_set.specs.declared.values.Property.{Property}
use Rattle.summary_set.specs.Values.{property_values}

-- the bytes of a stream that stay: version, system and CLSID, and FMTID
pub record KeptBytes : Type 0 where
  pub system : List ℕ
  pub format : List ℕ

abbrev pub kept_bytes : List ℕ → KeptBytes
kept_bytes b = record { system = slice_range b 2 24; format = slice_range b 28 44 }

-- how many zeros are behind a value
abbrev pub pad_len : ℕ → ℕ
pad_len len = (4 - len % 4) % 4

-- a value with zeros up to a multiple of 4
abbrev pub padded_value : List ℕ → List ℕ
padded_value value = value ++ zeros (pad_len (length value))

abbrev pub padded_property : Property → Property
padded_property property = record { id = property.id; value = padded_value property.value }

abbrev pub padded_len : Property → ℕ
padded_len property = length (padded_value property.value)

-- [MS-OLEPS] TypedPropertyValue with a CodePageString: type, padding, the count of the text and its zero
abbrev pub title_value : List ℕ → List ℕ
title_value title = number_bytes 2
    0x1E ++ (number_bytes 2 0 ++ (number_bytes 4 (length title + 1) ++ (title ++ 0 ∷ [])))

-- a title that may be put: at most 255 bytes, each of them a character of plain ASCII
pub record IsTitle (title : List ℕ) : Type 0 where
  pub short : length title ≤ 255
  pub plain : All (λ byte. (0x20 ≤ byte) × (byte ≤ 0x7E)) title

abbrev pub is_title_property : Property → Bool
is_title_property property = property.id == 2

abbrev pub title_property : List ℕ → Property
title_property title = record { id = 2; value = title_value title }

-- the title in the place of the old one
abbrev pub in_place : List ℕ → Property → Property
in_place title property = if is_title_property property then title_property title else property

-- the properties with this title: in the place of the old one, or last where there was none
abbrev pub retitled : List Property → List ℕ → List Property
retitled values title =
    map (in_place title) values ++ (if list_any is_title_property values then [] else title_property title ∷ [])

-- pairs of properties whose values are from an offset on, one behind the other
abbrev pub pair_bytes : ℕ → List Property → List ℕ
pair_bytes offset [] = []
pair_bytes offset (property ∷ rest) =
    number_bytes 4 property.id ++ (number_bytes 4 offset ++ pair_bytes (offset + padded_len property) rest)

-- where the first value is in a set of so many properties
abbrev pub first_offset : List Property → ℕ
first_offset values = 8 + 8 * length values

-- the size of the set
abbrev pub written_size : List Property → ℕ
written_size values = first_offset values + sum_by padded_len values

-- [MS-OLEPS] PropertySetStream up to the set: byte order, version to CLSID, one set, FMTID, Offset0
abbrev pub written_head : KeptBytes → List ℕ
written_head kept =
    number_bytes 2 0xFFFE ++ (kept.system ++ (number_bytes 4 1 ++ (kept.format ++ number_bytes 4 48)))

-- the head, the size and the count of the set, its pairs, and its values
abbrev pub written_set : KeptBytes → List Property → List ℕ
written_set kept values =
    written_head kept ++ (number_bytes 4 (written_size values) ++ (number_bytes 4 (length values) ++ (pair_bytes
    (first_offset values) values ++ flat_map (λ property. padded_value property.value) values)))

-- the stream with this title
abbrev pub retitled_stream : List ℕ → List ℕ → List ℕ
retitled_stream b title = written_set (kept_bytes b) (retitled (property_values b) title)
