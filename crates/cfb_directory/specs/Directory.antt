-- [MS-CFB] Directory Entry: 128 bytes, whose fields are named here by the offset in the file at which the entry is.
use Rattle.std.specs.Prelude.{◌≡◌, ◌⊎◌, ℕ, ◌+◌, ◌-◌, ◌*◌, ◌/◌, ◌<◌, List, length, slice_index, slice_range, nat_lt}
use Rattle.std.specs.Prelude.{if◌then◌else◌}
use Rattle.doc_bits.specs.Number.{u16_at, u32_at}

-- a unit of the name
abbrev pub entry_unit : List ℕ → ℕ → ℕ → ℕ
entry_unit file at i = u16_at file (at + 2 * i)

-- the length of the name in bytes, with its terminator
abbrev pub entry_name_length : List ℕ → ℕ → ℕ
entry_name_length file at = u16_at file (at + 64)

-- how many units the name has, without the terminator
abbrev pub entry_name_units : List ℕ → ℕ → ℕ
entry_name_units file at = entry_name_length file at / 2 - 1

-- the object type: 0 unused, 1 storage, 2 stream, 5 root
abbrev pub entry_type : List ℕ → ℕ → ℕ
entry_type file at = slice_index file (at + 66)

-- the entries that it names: left and right among its siblings, and its child
abbrev pub entry_left : List ℕ → ℕ → ℕ
entry_left file at = u32_at file (at + 68)

abbrev pub entry_right : List ℕ → ℕ → ℕ
entry_right file at = u32_at file (at + 72)

abbrev pub entry_child : List ℕ → ℕ → ℕ
entry_child file at = u32_at file (at + 76)

-- NOSTREAM: no entry is named
abbrev pub no_stream_entry : ℕ
no_stream_entry = 0xFFFF_FFFF

-- the CLSID
abbrev pub entry_clsid : List ℕ → ℕ → List ℕ
entry_clsid file at = slice_range file (at + 80) (at + 96)

-- the first sector of the stream
abbrev pub entry_start : List ℕ → ℕ → ℕ
entry_start file at = u32_at file (at + 116)

-- Profile: the size of the stream in bytes, without the upper half of its field
abbrev pub entry_stream_size : List ℕ → ℕ → ℕ
entry_stream_size file at = u32_at file (at + 120)

-- Profile: the upper case of a unit, of ASCII letters alone
abbrev pub upper_case : ℕ → ℕ
upper_case unit = if nat_lt unit 97 then unit else (if nat_lt unit 123 then unit - 32 else unit)

-- the entry's name, unit by unit
pub record IsEntryName (file : List ℕ) (at : ℕ) (name : List ℕ) : Type 0 where
  pub long : entry_name_length file at ≡ 2 * length name + 2
  pub units : (i : ℕ) → i < length name → slice_index name i ≡ entry_unit file at i

-- two entries have one name: names of one length, whose units are equal in upper case
pub record HaveOneName (file : List ℕ) (at other : ℕ) : Type 0 where
  pub long : entry_name_length file at ≡ entry_name_length file other
  pub units : (i : ℕ) → i < entry_name_units file at →
      upper_case (entry_unit file at i) ≡ upper_case (entry_unit file other i)

-- names are equal: they have one length, and their units are equal in upper case
pub record AreSameNames (name other : List ℕ) : Type 0 where
  pub long : length name ≡ length other
  pub units : (i : ℕ) → i < length name → upper_case (slice_index name i) ≡ upper_case (slice_index other i)

-- the first unit at which two names of one length differ is the lesser in upper case
pub record IsLessAt (file : List ℕ) (at other place : ℕ) : Type 0 where
  pub inside : place < entry_name_units file at
  pub front : (i : ℕ) → i < place → upper_case (entry_unit file at i) ≡ upper_case (entry_unit file other i)
  pub less : upper_case (entry_unit file at place) < upper_case (entry_unit file other place)

-- Profile: the name of an entry comes before that of another where it is shorter, or as long and the lesser where the
-- two first differ
abbrev pub EntryBefore : List ℕ → ℕ → ℕ → Type 0
EntryBefore file at other =
    (entry_name_length file at < entry_name_length file other)
    ⊎ ((entry_name_length file at ≡ entry_name_length file other) × ((place : ℕ) × IsLessAt file at other place))

-- the same for two lists of units
pub record IsNameLessAt (name other : List ℕ) (place : ℕ) : Type 0 where
  pub inside : place < length name
  pub front : (i : ℕ) → i < place → upper_case (slice_index name i) ≡ upper_case (slice_index other i)
  pub less : upper_case (slice_index name place) < upper_case (slice_index other place)

abbrev pub IsNameBefore : List ℕ → List ℕ → Type 0
IsNameBefore name other =
    (length name < length other) ⊎ ((length name ≡ length other) × ((place : ℕ) × IsNameLessAt name other place))
