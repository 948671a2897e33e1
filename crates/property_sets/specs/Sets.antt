-- [MS-OLEPS] PropertySetStream: which parts of a stream are its property sets. Offsets in a set count from its
-- beginning.
use Rattle.std.specs.Prelude.{◌≡◌, ℕ, ◌+◌, ◌*◌, ◌<◌, ◌≤◌, List, length, map, slice_range}
use Rattle.std.specs.List.{range_with_len}
use Rattle.doc_bits.specs.Number.{u16_at, u32_at}
use Rattle.property_sets.specs.declared.set.PropertyPair.{PropertyPair}

-- NumPropertySets
abbrev pub set_count : List ℕ → ℕ
set_count stream = u32_at stream 24

-- Offset0, Offset1: where a set begins in the stream. Each is behind the FMTID of its set; both have 20 bytes
abbrev pub set_begin : List ℕ → ℕ → ℕ
set_begin stream k = u32_at stream (44 + 20 * k)

-- [MS-OLEPS] PropertySet: Size
abbrev pub set_size : List ℕ → ℕ → ℕ
set_size stream k = u32_at stream (set_begin stream k)

-- the head of the stream names a set, and the numbers at its beginning are there
pub record NamesSet (stream : List ℕ) (k : ℕ) : Type 0 where
  pub head : 48 + 20 * k ≤ length stream
  pub mark : u16_at stream 0 ≡ 0xFFFE
  pub among : k < set_count stream
  pub numbers : set_begin stream k + 8 ≤ length stream

-- [MS-OLEPS] PropertySet: NumProperties
abbrev pub pair_count : List ℕ → ℕ
pair_count set = u32_at set 4

-- a set has its numbers, and all of its pairs
pub record IsSet (set : List ℕ) : Type 0 where
  pub numbers : 8 ≤ length set
  pub pairs : 8 + 8 * pair_count set ≤ length set

-- these bytes are a set of the stream, in form: it is named, the stream has all of it, and it has its pairs
pub record IsSetInStream (stream : List ℕ) (k : ℕ) (set : List ℕ) : Type 0 where
  pub named : NamesSet stream k
  pub within : set_begin stream k + set_size stream k ≤ length stream
  pub bytes : set ≡ slice_range stream (set_begin stream k) (set_begin stream k + set_size stream k)
  pub is : IsSet set

-- [MS-OLEPS] PropertyIdentifierAndOffset
abbrev pub pair_at : List ℕ → ℕ → PropertyPair
pair_at set i = record { id = u32_at set (8 + 8 * i); offset = u32_at set (12 + 8 * i) }

-- the pairs of a set, in their order
abbrev pub pairs_of : List ℕ → List PropertyPair
pairs_of set = map (pair_at set) (range_with_len 0 (pair_count set))
