-- A stream that stays where it is in the file while it grows. Told over the bytes of the files at their places.
use Rattle.std.specs.Prelude.{◌≡◌, ℕ, ◌+◌, ◌*◌, ◌/◌, ◌%◌, ◌<◌, ◌≤◌, List, length, take, slice_index, slice_get, Some}
use Rattle.doc_bits.specs.Rules.{Hold}
use Rattle.cfb_streams.specs.Contents.{Stream, Contents}
use Rattle.cfb_streams.specs.Container.{container_rules, HasContents}
use Rattle.cfb_directory.specs.Directory.{AreSameNames}
use Rattle.cfb_layout.specs.Sectors.{units_for}
use Rattle.cfb_sectors.specs.Header.{sector_len}

-- the file has a stream of this name with sectors of its own, these bytes and these sectors
pub record HasLongStream (file name bytes sectors : List ℕ) : Type 0 where
  pub whole : Hold (container_rules file)
  pub contents : Contents
  pub has : HasContents file contents
  pub index : ℕ
  pub stream : Stream
  pub here : slice_get contents.streams index ≡ Some stream
  pub named : AreSameNames stream.name name
  pub bytes_are : stream.bytes ≡ bytes
  pub chain_is : stream.chain ≡ Some sectors

-- where byte x of a stream with these sectors is in the file
abbrev pub byte_place : List ℕ → ℕ → ℕ
byte_place sectors x = (slice_index sectors (x / sector_len) + 1) * sector_len + x % sector_len

-- the first sectors of the stream are those of the old one, as many as its bytes need, and from a byte on all of the
-- old bytes are where they stood
pub record StaysInPlace (name : List ℕ) (from : ℕ) (old new bytes : List ℕ) : Type 0 where
  pub sectors : List ℕ
  pub was : HasLongStream old name bytes sectors
  pub bytes_after : List ℕ
  pub sectors_after : List ℕ
  pub is : HasLongStream new name bytes_after sectors_after
  pub longer : length bytes ≤ length bytes_after
  pub first : take (units_for sector_len (length bytes)) sectors_after ≡ take (units_for sector_len (length bytes))
      sectors
  pub same : (x : ℕ) → from ≤ x → x < length bytes →
      slice_index new (byte_place sectors x) ≡ slice_index old (byte_place sectors x)
