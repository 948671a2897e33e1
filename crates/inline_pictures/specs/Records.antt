-- [MS-ODRAW] OfficeArtRecordHeader: recVer (4 bits) and recInstance (12), recType, recLen (the bytes behind these 8).
use Rattle.std.specs.Prelude.{ℕ, ◌+◌, ◌/◌, ◌≤◌, List}
use Rattle.doc_bits.specs.Number.{u16_at, u32_at}

abbrev pub record_instance : List ℕ → ℕ → ℕ
record_instance stream at = u16_at stream at / 16

abbrev pub record_type : List ℕ → ℕ → ℕ
record_type stream at = u16_at stream (at + 2)

-- where a record ends, as its length has it
abbrev pub record_end : List ℕ → ℕ → ℕ
record_end stream at = at + 8 + u32_at stream (at + 4)

-- a record at a place, within what ends at the limit
pub record IsRecordAt (stream : List ℕ) (at limit : ℕ) : Type 0 where
  pub header : at + 8 ≤ limit
  pub within : record_end stream at ≤ limit
