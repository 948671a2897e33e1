-- What is read of bytes is bytes, and the units of names have 16 bits.
use Rattle.std.proofs.Common.{◌≡◌, inl, inr, ℕ, ◌+◌, ◌*◌, ◌^◌, ◌<◌, List, length, Some, slice_index, slice_get, sym}
use Rattle.std.proofs.Common.{subst, arith}
use Rattle.std.specs.List.{flat_map}
use Rattle.std.proofs.lemmas.Bool.{cases_lt}
use Rattle.std.proofs.lemmas.List.{get_or_past}
use Rattle.doc_bits.specs.Number.{AreBytes}
use Rattle.doc_bits.proofs.Public.{number_at-bound, AreBytes-take, AreBytes-range, AreBytes-flat_map, no_bytes}
use Rattle.cfb_sectors.specs.Header.{sector_bytes}
use Rattle.cfb_directory.specs.Directory.{entry_stream_size, IsEntryName}
use Rattle.cfb_directory.specs.Reach.{entry_place}
use Rattle.cfb_streams.specs.StreamRules.{Parts}
use Rattle.cfb_streams.specs.Contents.{Stream, Contents, IsStored}
use Rattle.cfb_streams.specs.Container.{mini_bytes, IsStreamOf, HasContents}

-- bytes of sectors
pub sectors_bytes : (base unit : ℕ) (bytes sectors : List ℕ) → AreBytes bytes →
    AreBytes (flat_map (sector_bytes base unit bytes) sectors)
sectors_bytes base unit bytes sectors are =
    AreBytes-flat_map (sector_bytes base unit bytes) sectors
    (λ sector. AreBytes-range bytes (base + sector * unit) (base + sector * unit + unit) are)

name_units : (file : List ℕ) (at : ℕ) (name : List ℕ) → AreBytes file → IsEntryName file at name → (i : ℕ) →
    slice_index name i < 2 ^ 16
name_units file at name are is i = elim (cases_lt i (length name)) [
  | inl low ↦ rw (is.units i low) (number_at-bound file (at + 2 * i) 2 are)
  | inr high ↦ let past : slice_index name i ≡ 0 = get_or_past name i 0 high in rw past (omega arith)
]

-- a stream of a file
pub stream_stored : (file : List ℕ) (parts : Parts) (entry : ℕ) (stream : Stream) → AreBytes file →
    IsStreamOf file parts entry stream → IsStored stream.name stream.bytes
stream_stored file parts entry stream are is = record {
  units = name_units file (entry_place parts.directory entry) stream.name are is.name;
  small =
      let size = entry_stream_size file (entry_place parts.directory entry) in
      elim is.holds [
        | inl empty ↦ subst AreBytes (sym empty.bytes) no_bytes
        | inr more ↦ elim more [
          | inl short ↦ subst AreBytes (sym short.body.joined)
              (AreBytes-take size (flat_map (sector_bytes 0 64 (mini_bytes file parts)) short.body.sectors)
              (sectors_bytes 0 64 (mini_bytes file parts) short.body.sectors
              (sectors_bytes 512 512 file parts.mini_stream are)))
          | inr long ↦ subst AreBytes (sym long.body.joined)
              (AreBytes-take size (flat_map (sector_bytes 512 512 file) long.sectors)
              (sectors_bytes 512 512 file long.sectors are))
        ]
      ];
}

-- the streams of a file
pub contents_stored : (file : List ℕ) (contents : Contents) → AreBytes file → HasContents file contents →
    (i : ℕ) (stream : Stream) → slice_get contents.streams i ≡ Some stream → IsStored stream.name stream.bytes
contents_stored file contents are has i stream there =
    stream_stored file has.parts (slice_index has.entries i) stream are (has.streams.each i stream there)
