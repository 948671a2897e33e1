-- A structure of numbers: its fields in their order, each with its width.
use Rattle.std.specs.Prelude.{ℕ, List}
use Rattle.std.specs.List.{flat_map}
use Rattle.doc_bits.specs.Number.{number_bytes}
use Rattle.cfb_layout.specs.declared.fields.Field.{Field}
use Rattle.cfb_layout.specs.declared.fields.Field.TheVariants.{Long, Word, Byte}

-- in how many bytes a field is
abbrev pub width_of : Field → ℕ
width_of (Long value) = 4
width_of (Word value) = 2
width_of (Byte value) = 1

abbrev pub field_value : Field → ℕ
field_value (Long value) = value
field_value (Word value) = value
field_value (Byte value) = value

abbrev pub field_bytes : Field → List ℕ
field_bytes field = number_bytes (width_of field) (field_value field)

-- the bytes of fields, one after another
unfoldable pub fields_bytes : List Field → List ℕ
fields_bytes = flat_map field_bytes
