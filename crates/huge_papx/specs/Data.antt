-- [MS-DOC] Data, the stream, and PrcData, a list of sprms in it.
use Rattle.std.specs.Prelude.{◌≡◌, ℕ, ◌+◌, ◌≤◌, Bool, List, [], ◌∷◌, length, codes, slice_range, if◌then◌else◌}
use Rattle.doc_bits.specs.Number.{u16_at}
use Rattle.cfb_streams.specs.Contents.{NamedBytes}
use Rattle.cfb_streams.specs.Names.{is_same_name}

abbrev pub data_name : List ℕ
data_name = codes "Data"

abbrev pub is_data : NamedBytes → Bool
is_data stream = is_same_name stream.name data_name

-- the bytes of the stream of this name among those that a document carries, or none
abbrev pub data_of : List NamedBytes → List ℕ
data_of [] = []
data_of (stream ∷ streams) = if is_data stream then stream.bytes else data_of streams

-- [MS-DOC] PrcData: cbGrpprl, which is at most 0x3FA2, and so many bytes of a list. Profile: at least 2
pub record IsPrcAt (stream : List ℕ) (at : ℕ) (list : List ℕ) : Type 0 where
  pub count : at + 2 ≤ length stream
  pub least : 2 ≤ u16_at stream at
  pub most : u16_at stream at ≤ 0x3FA2
  pub within : at + 2 + u16_at stream at ≤ length stream
  pub list_is : list ≡ slice_range stream (at + 2) (at + 2 + u16_at stream at)
