-- [MS-DOC] PICFAndOfficeArtData: lcb (the bytes of all), cbHeader, mfpf.mm, and behind the PICF a name and the drawing.
use Rattle.std.specs.Prelude.{◌≡◌, ℕ, ◌+◌, ◌≤◌, ◌==◌, List, length, ◌⊎◌, slice_index, if◌then◌else◌}
use Rattle.doc_bits.specs.Number.{u16_at, u32_at}

-- where it ends, as its length has it
abbrev pub picf_end : List ℕ → ℕ → ℕ
picf_end stream at = at + u32_at stream at

-- a PICF whose drawing is a shape (MM_SHAPE) or a shape with a name (MM_SHAPEFILE), within the stream
pub record IsPicfAt (stream : List ℕ) (at : ℕ) : Type 0 where
  pub within : picf_end stream at ≤ length stream
  pub some : at + 69 ≤ picf_end stream at
  pub header : u16_at stream (at + 4) ≡ 68
  pub mode : (u16_at stream (at + 6) ≡ 0x64) ⊎ (u16_at stream (at + 6) ≡ 0x66)

-- where the drawing begins: behind cPicName and stPicName, if they are there
abbrev pub art_at : List ℕ → ℕ → ℕ
art_at stream at =
    if u16_at stream (at + 6) == 0x66 then at + 69 + slice_index stream (at + 68) else at + 68
