-- [MS-OLEPS] TypedPropertyValue: a type of 16 bits, two bytes of padding, and the data of the type.
use Rattle.std.specs.Prelude.{ℕ, ◌+◌, ◌*◌, Bool, ◌||◌, ◌&&◌, ◌==◌, if◌then◌else◌, nat_le, List, length, slice_range}
use Rattle.std.specs.Prelude.{Option, Some, None}
use Rattle.doc_bits.specs.Number.{u16_at, u32_at}
use Rattle.property_sets.specs.declared.property.TypedValue.{TypedValue}

-- types whose data has a count in front: VT_BSTR, VT_LPSTR, VT_BLOB, VT_CF
abbrev pub counts_bytes : ℕ → Bool
counts_bytes kind = kind == 0x08 || (kind == 0x1E || (kind == 0x41 || kind == 0x47))

-- how many bytes are counted by one: of VT_LPWSTR two, since its count is that of 16-bit characters. Of other types 0
abbrev pub counted_width : ℕ → ℕ
counted_width kind = if kind == 0x1F then 2 else (if counts_bytes kind then 1 else 0)

-- VT_I1, VT_UI1
abbrev pub has_one : ℕ → Bool
has_one kind = kind == 0x10 || kind == 0x11

-- VT_I2, VT_BOOL, VT_UI2
abbrev pub has_two : ℕ → Bool
has_two kind = kind == 0x02 || (kind == 0x0B || kind == 0x12)

-- VT_I4, VT_R4, VT_ERROR, VT_UI4, VT_INT, VT_UINT
abbrev pub has_four : ℕ → Bool
has_four kind =
    kind == 0x03 || (kind == 0x04 || (kind == 0x0A || (kind == 0x13 || (kind == 0x16 || kind == 0x17))))

-- VT_R8, VT_CY, VT_DATE, VT_I8, VT_UI8, VT_FILETIME
abbrev pub has_eight : ℕ → Bool
has_eight kind =
    kind == 0x05 || (kind == 0x06 || (kind == 0x07 || (kind == 0x14 || (kind == 0x15 || kind == 0x40))))

-- how many bytes the data of a type has that has no count. Of VT_CLSID 16; the data of all others is not read
abbrev pub fixed_value_len : ℕ → ℕ
fixed_value_len kind =
    if has_one kind then 1 else
    if has_two kind then 2 else
    if has_four kind then 4 else
    if has_eight kind then 8 else
    if kind == 0x48 then 16 else 0

-- how many bytes are before the data: type and padding, and the count of types that have one
abbrev pub head_len : ℕ → ℕ
head_len kind = if counted_width kind == 0 then 4 else 8

-- how many bytes the data has
abbrev pub data_len : List ℕ → ℕ → ℕ → ℕ
data_len set offset kind =
    if counted_width kind == 0 then fixed_value_len kind else counted_width kind * u32_at set (offset + 4)

-- the value at an offset, where the set has all of it
abbrev pub typed_value : List ℕ → ℕ → ℕ → Option TypedValue
typed_value set offset kind =
    let from = offset + head_len kind in
    let to = from + data_len set offset kind in
    if nat_le to (length set) then Some (record { kind = kind; bytes = slice_range set from to }) else None

abbrev pub value_at : List ℕ → ℕ → Option TypedValue
value_at set offset = if nat_le (offset + 4) (length set) then typed_value set offset (u16_at set offset) else None
