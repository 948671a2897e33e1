-- Laws of a save in a file's own sectors.
use Rattle.std.specs.Prelude.{◌≡◌, ℕ, ◌+◌, ◌*◌, ◌≤◌, List, length, Some, slice_get}
use Rattle.doc_bits.specs.Rules.{Hold}
use Rattle.doc_bits.specs.Number.{AreBytes}
use Rattle.cfb_sectors.specs.Header.{sector_len, sector_count}
use Rattle.cfb_directory.specs.Directory.{AreSameNames}
use Rattle.cfb_streams.specs.Contents.{Stream, Contents}
use Rattle.cfb_streams.specs.Container.{container_rules, HasContents}
use Rattle.cfb_layout.specs.Sectors.{units_for}
use Rattle.cfb_layout.specs.Counts.{most_sectors}
use Rattle.cfb_in_place.specs.Change.{StreamChange, OldChains, added_sectors, sectors_after, fat_sectors_more}
use Rattle.cfb_in_place.specs.Change.{grown_count, fresh_count}
use Rattle.cfb_in_place.specs.Save.{AreOldChains, CanBePut, FitsAfter, IsSave, AreContentsAfter}
use Rattle.cfb_in_place.specs.InPlace.{StaysInPlace}

-- with so many FAT sectors more each sector has an entry, theirs too; and with no fewer
pub record IsLeastMore (fat_count sectors more : ℕ) : Type 0 where
  pub holds : sectors + more ≤ 128 * (fat_count + more)
  pub least : (fewer : ℕ) → sectors + fewer ≤ 128 * (fat_count + fewer) → more ≤ fewer

abbrev pub FatGrowsLeast : Type 0
FatGrowsLeast = (fat_count sectors : ℕ) → IsLeastMore fat_count sectors (fat_sectors_more fat_count sectors)

-- the numbers of the FAT sectors fit the 109 places of the header where the file has no more sectors than a file may
abbrev pub FatFitsTheHeader : Type 0
FatFitsTheHeader =
    (fat_count sectors : ℕ) → fat_count ≤ 109 → sectors + fat_sectors_more fat_count sectors ≤ most_sectors
    → fat_count + fat_sectors_more fat_count sectors ≤ 109

-- where the added sectors but for the FAT's are reckoned as bytes, so are all sectors
abbrev pub SectorsAreReckoned : Type 0
SectorsAreReckoned =
    (file : List ℕ) (chains : OldChains) (change : StreamChange) (bytes : ℕ)
    → sector_len * (grown_count chains change + fresh_count change) + 9975 ≤ bytes
    → sectors_after file (added_sectors file chains change) ≤ sector_count file + units_for 500 bytes + 8

-- a stream that stays where it is over one save, and over the next, stays over both
abbrev pub StaysOverTwo : Type 0
StaysOverTwo =
    (name : List ℕ) (from later : ℕ) (old middle new bytes : List ℕ) (first : StaysInPlace name from old middle bytes)
    → StaysInPlace name later middle new first.bytes_after → later ≤ from → StaysInPlace name from old new bytes

-- there is such a file: the places can all be as they are said, whatever the file before and the change
abbrev pub SaveIsThere : Type 0
SaveIsThere =
    (old : List ℕ) (contents : Contents) (has : HasContents old contents) (chains : OldChains) (change : StreamChange)
    → Hold (container_rules old) → AreOldChains old has.parts chains → CanBePut chains change
    → FitsAfter old (added_sectors old chains change) → AreBytes old
    → (new : List ℕ) × IsSave old new contents has chains change

-- the file after breaks none of the rules 1 to 14
abbrev pub SaveBreaksNoRule : Type 0
SaveBreaksNoRule =
    (old new : List ℕ) (contents : Contents) (has : HasContents old contents) (chains : OldChains)
    (change : StreamChange) → IsSave old new contents has chains change → Hold (container_rules new)

-- and holds the old streams in their order, two of them with the bytes and the sectors that the save gave them, and the
-- old CLSID
abbrev pub SaveHasContents : Type 0
SaveHasContents =
    (old new : List ℕ) (contents after : Contents) (has : HasContents old contents) (chains : OldChains)
    (change : StreamChange) → IsSave old new contents has chains change
    → AreContentsAfter contents after has.entries chains (added_sectors old chains change) change
    → HasContents new after

-- the stream that grows stays where it is, and from the end of the new front on all of its old bytes
abbrev pub SaveStaysInPlace : Type 0
SaveStaysInPlace =
    (old new : List ℕ) (contents after : Contents) (has : HasContents old contents) (chains : OldChains)
    (change : StreamChange) → IsSave old new contents has chains change
    → (are : AreContentsAfter contents after has.entries chains (added_sectors old chains change) change)
    → (name : List ℕ) (stream : Stream) → slice_get contents.streams are.grown ≡ Some stream
    → AreSameNames stream.name name → StaysInPlace name (length change.fib) old new stream.bytes
