-- What the canonical container is for a reader.
use Rattle.std.specs.Prelude.{◌≡◌, ℕ, ◌+◌, ◌*◌, ◌^◌, ◌<◌, ◌≤◌, List, length, map, Some, slice_get, slice_index}
use Rattle.doc_bits.specs.Rules.{Hold}
use Rattle.cfb_sectors.specs.Header.{sector_count}
use Rattle.cfb_streams.specs.Contents.{NamedBytes, Contents, AreStreams}
use Rattle.cfb_streams.specs.Container.{container_rules, HasContents}
use Rattle.cfb_layout.specs.Sectors.{units_for}
use Rattle.cfb_layout.specs.Counts.{Fits, sectors_needed}
use Rattle.cfb_layout.specs.Layout.{lengths_of, compound_file, contents_of}

-- streams that are laid out: few and short enough, with names of 16-bit units, and a CLSID
pub record AreLayoutStreams (streams : List NamedBytes) (clsid : List ℕ) : Type 0 where
  pub few : length streams ≤ 1023
  pub fits : Fits (lengths_of streams)
  pub clsid_len : length clsid ≡ 16
  pub names : (i : ℕ) (stream : NamedBytes) → slice_get streams i ≡ Some stream → (k : ℕ) → slice_index stream.name k
      < 2 ^ 16

-- it is accepted
abbrev pub BreaksNoRule : Type 0
BreaksNoRule =
    (streams : List NamedBytes) (clsid : List ℕ) → AreStreams streams → AreLayoutStreams streams clsid →
    Hold (container_rules (compound_file streams clsid))

-- it is read as these streams, those of 4,096 bytes or more in sectors that are in a row, and this CLSID
abbrev pub HoldsItsStreams : Type 0
HoldsItsStreams =
    (streams : List NamedBytes) (clsid : List ℕ) → AreStreams streams → AreLayoutStreams streams clsid →
    HasContents (compound_file streams clsid) (contents_of streams clsid)

-- with so many FAT sectors each sector, theirs too, has an entry; and with no fewer
pub record IsLeastFat (sectors count : ℕ) : Type 0 where
  pub holds : sectors + count ≤ 128 * count
  pub least : (fewer : ℕ) → sectors + fewer ≤ 128 * fewer → count ≤ fewer

-- the number of FAT sectors is the least that holds all sectors
abbrev pub FatIsLeast : Type 0
FatIsLeast = (sectors : ℕ) → IsLeastFat sectors (units_for 127 sectors)

-- no accepted file with streams of these lengths has fewer sectors
abbrev pub NoFileIsShorter : Type 0
NoFileIsShorter =
    (file : List ℕ) (contents : Contents) → Hold (container_rules file) → HasContents file contents
    → sectors_needed (map (λ stream. length stream.bytes) contents.streams) ≤ sector_count file
