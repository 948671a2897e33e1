-- What a save in a container's own sectors answers: a contract for the call that makes it.
use Rattle.std.specs.Prelude.{◌≡◌, ◌≢◌, ℕ, ◌^◌, ◌<◌, ◌≤◌, List, length, Some, slice_get, slice_index}
use Rattle.doc_bits.specs.Rules.{Hold}
use Rattle.cfb_directory.specs.Directory.{AreSameNames}
use Rattle.cfb_streams.specs.Names.{wd_name}
use Rattle.cfb_streams.specs.Contents.{Stream, Contents}
use Rattle.cfb_streams.specs.Container.{container_rules, HasContents}
use Rattle.cfb_layout.specs.Counts.{most_sectors}
use Rattle.cfb_layout.specs.declared.faults.LayoutFault.{LayoutFault}
use Rattle.cfb_layout.specs.declared.faults.LayoutFault.TheVariants.{TooLarge, Memory}
use Rattle.cfb_in_place.specs.Change.{StreamChange, NamedChange, grown_bytes, OldChains, added_sectors, sectors_after}
use Rattle.cfb_in_place.specs.Save.{AreOldChains, CanBePut, IsSave, AreContentsAfter}

-- the stream at this place of the list has the name
pub record IsNamed (contents : Contents) (index : ℕ) (name : List ℕ) : Type 0 where
  pub stream : Stream
  pub here : slice_get contents.streams index ≡ Some stream
  pub named : AreSameNames stream.name name

-- the list has two streams: that of the FIB, with sectors of its own, and another one of this name
pub record AreTwoStreams (contents : Contents) (name : List ℕ) : Type 0 where
  pub main : (i : ℕ) × IsNamed contents i wd_name
  pub other : (i : ℕ) × IsNamed contents i name
  pub apart : (i j : ℕ) → IsNamed contents i wd_name → IsNamed contents j name → i ≢ j
  pub long : (i : ℕ) (is : IsNamed contents i wd_name) → 4096 ≤ length is.stream.bytes

-- the change may be put there: a front no longer than the least stream with sectors of its own, and streams below 2^31
-- bytes
pub record CanBePutInPlace (contents : Contents) (change : StreamChange) (name : List ℕ) : Type 0 where
  pub two : AreTwoStreams contents name
  pub fib : length change.fib ≤ 4096
  pub table : 4096 ≤ length change.table
  pub grown_short : (i : ℕ) (is : IsNamed contents i wd_name) → length (grown_bytes change is.stream.bytes) < 2 ^ 31
  pub table_short : length change.table < 2 ^ 31

-- the same, stream by stream: the lengths of the change, and what a stream with the FIB must be
pub record HasLengths (change : StreamChange) : Type 0 where
  pub fib : length change.fib ≤ 4096
  pub table : 4096 ≤ length change.table
  pub table_short : length change.table < 2 ^ 31

abbrev pub FitsChange : Contents → NamedChange → ℕ → Type 0
FitsChange contents change i =
    (is : IsNamed contents i wd_name) → (¬ IsNamed contents i change.name) × ((4096 ≤ length is.stream.bytes) ×
    (length (grown_bytes change.change is.stream.bytes) < 2 ^ 31))

-- the entry of the stream with the name
pub record HasStreamEntry (contents : Contents) (entries name : List ℕ) (entry : ℕ) : Type 0 where
  pub index : ℕ
  pub is : IsNamed contents index name
  pub here : slice_index entries index ≡ entry

-- the two streams of the file that have these names
pub record AreNamedChains (file : List ℕ) (contents : Contents) (name : List ℕ) (chains : OldChains) : Type 0 where
  pub has : HasContents file contents
  pub are : AreOldChains file has.parts chains
  pub main : HasStreamEntry contents has.entries wd_name chains.grown_entry
  pub other : HasStreamEntry contents has.entries name chains.table_entry
  pub main_bytes : chains.bytes ≡ main.is.stream.bytes

-- the file is that of the places; it is accepted, and read as the streams of before but for the two of these names
pub record IsSavedInPlace (old new : List ℕ) (contents : Contents) (change : StreamChange) (name : List ℕ) : Type 0
  where
    pub has : HasContents old contents
    pub chains : OldChains
    pub save : IsSave old new contents has chains change
    pub after : Contents
    pub are : AreContentsAfter contents after has.entries chains (added_sectors old chains change) change
    pub main : IsNamed contents are.grown wd_name
    pub other : IsNamed contents are.table name
    pub holds : Hold (container_rules new)
    pub read : HasContents new after

-- there are too many sectors
pub record NeedsTooMany (old : List ℕ) (contents : Contents) (change : StreamChange) (name : List ℕ) (sectors : ℕ)
    : Type 0 where
  pub chains : OldChains
  pub named : AreNamedChains old contents name chains
  pub put : CanBePut chains change
  pub many : most_sectors < sectors_after old (added_sectors old chains change)
  pub number : sectors ≡ sectors_after old (added_sectors old chains change)

-- too many sectors, with their number, or want of memory, which is free
abbrev pub IsInPlaceFault : List ℕ → Contents → StreamChange → List ℕ → LayoutFault → Type 0
IsInPlaceFault old contents change name (TooLarge sectors) = NeedsTooMany old contents change name sectors
IsInPlaceFault old contents change name Memory = Unit {0}
