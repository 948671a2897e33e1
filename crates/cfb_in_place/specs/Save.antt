-- What a save in a file's own sectors asks for, and what is read of the file behind it.
use Rattle.std.specs.Prelude.{◌≡◌, ◌≢◌, ℕ, ◌^◌, ◌<◌, ◌≤◌, List, [], length, Some, slice_get, slice_index}
use Rattle.std.specs.List.{range_with_len}
use Rattle.doc_bits.specs.Rules.{Hold}
use Rattle.cfb_sectors.specs.Chain.{fat_table, HoldsChain}
use Rattle.cfb_sectors.specs.Header.{sector_len, mini_sector_len}
use Rattle.cfb_directory.specs.Directory.{entry_stream_size}
use Rattle.cfb_directory.specs.Reach.{entry_place}
use Rattle.cfb_directory.specs.StreamEntries.{IsStreamEntry, IsLargeStream, IsSmallStream, stream_head}
use Rattle.cfb_streams.specs.StreamRules.{Parts, mini_table_of}
use Rattle.cfb_streams.specs.Contents.{Stream, Contents}
use Rattle.cfb_streams.specs.Container.{container_rules, HasContents, IsLongBody}
use Rattle.cfb_layout.specs.Counts.{most_sectors}
use Rattle.cfb_layout.specs.declared.faults.LayoutFault.{LayoutFault}
use Rattle.cfb_layout.specs.declared.faults.LayoutFault.TheVariants.{TooLarge, Memory}
use Rattle.cfb_in_place.specs.Change.{StreamChange, grown_bytes, OldChains, Added, fresh_from, sectors_after}
use Rattle.cfb_in_place.specs.Change.{added_sectors}
use Rattle.cfb_in_place.specs.Appended.{chain_after, IsSavedBehind}

-- the stream that is written anew leaves nothing, its mini sectors, or its sectors
pub data LeavesSectors (file : List ℕ) (parts : Parts) (chains : OldChains) : Type 0 where
  nothing : entry_stream_size file (entry_place parts.directory chains.table_entry) ≡ 0 → chains.freed ≡ [] →
      chains.freed_mini ≡ [] → LeavesSectors file parts chains
  mini_sectors : IsSmallStream file parts.directory chains.table_entry → HoldsChain (mini_table_of file
      parts.directory parts.mini_fat) (stream_head file mini_sector_len (entry_place parts.directory
      chains.table_entry)) chains.freed_mini → chains.freed ≡ [] → LeavesSectors file parts chains
  sectors : IsLargeStream file parts.directory chains.table_entry → HoldsChain (fat_table file) (stream_head file
      sector_len (entry_place parts.directory chains.table_entry)) chains.freed → chains.freed_mini ≡ [] →
      LeavesSectors file parts chains

-- the chain of a short stream; no other one has mini sectors
pub record IsMiniChain (file : List ℕ) (parts : Parts) (entry : ℕ) (sectors : List ℕ) : Type 0 where
  pub short : IsSmallStream file parts.directory entry → HoldsChain (mini_table_of file parts.directory parts.mini_fat)
      (stream_head file mini_sector_len (entry_place parts.directory entry)) sectors
  pub none : ¬ IsSmallStream file parts.directory entry → sectors ≡ []

-- two streams of the file: one with sectors of its own, which grows, and another one
pub record AreOldChains (file : List ℕ) (parts : Parts) (chains : OldChains) : Type 0 where
  pub grown : IsLongBody file parts.directory chains.grown_entry chains.bytes chains.grown
  pub table : IsStreamEntry file parts.directory chains.table_entry
  pub apart : chains.grown_entry ≢ chains.table_entry
  pub leaves : LeavesSectors file parts chains

-- what may be put there: a front no longer than the least stream with sectors of its own, and streams below 2^31 bytes
pub record CanBePut (chains : OldChains) (change : StreamChange) : Type 0 where
  pub fib : length change.fib ≤ 4096
  pub table : 4096 ≤ length change.table
  pub grown_short : length (grown_bytes change chains.bytes) < 2 ^ 31
  pub table_short : length change.table < 2 ^ 31

abbrev pub FitsAfter : List ℕ → Added → Type 0
FitsAfter file added = sectors_after file added ≤ most_sectors

-- the streams after: two of them have other bytes and other sectors
pub record AreStreamsAfter (before after : List Stream) (grown table : ℕ) (chains : OldChains) (added : Added)
    (change : StreamChange) : Type 0 where
  pub len : length after ≡ length before
  pub grown_is : (stream : Stream) → slice_get before grown ≡ Some stream → slice_get after grown ≡ Some (record {
    name = stream.name;
    bytes = grown_bytes change chains.bytes;
    chain = Some (chain_after chains added);
  })
  pub table_is : (stream : Stream) → slice_get before table ≡ Some stream → slice_get after table ≡ Some (record {
    name = stream.name;
    bytes = change.table;
    chain = Some (range_with_len (fresh_from added) added.fresh);
  })
  pub others : (i : ℕ) → i ≢ grown → i ≢ table → slice_get after i ≡ slice_get before i

-- a save: the file before breaks no rule, the change may be put there, and the file after is that of the places
pub record IsSave (old new : List ℕ) (contents : Contents) (has : HasContents old contents) (chains : OldChains)
    (change : StreamChange) : Type 0 where
  pub hold : Hold (container_rules old)
  pub are : AreOldChains old has.parts chains
  pub put : CanBePut chains change
  pub fits : FitsAfter old (added_sectors old chains change)
  pub saved : IsSavedBehind old new has.parts chains (added_sectors old chains change) change

-- what is read of the file after: the two streams are these of the list, and the CLSID is the old one
pub record AreContentsAfter (before after : Contents) (entries : List ℕ) (chains : OldChains) (added : Added)
    (change : StreamChange) : Type 0 where
  pub grown : ℕ
  pub table : ℕ
  pub grown_is : slice_index entries grown ≡ chains.grown_entry
  pub table_is : slice_index entries table ≡ chains.table_entry
  pub streams : AreStreamsAfter before.streams after.streams grown table chains added change
  pub clsid : after.clsid ≡ before.clsid

-- a file that is accepted, with its parts, and a change that may be put there
pub record CanSave (old : List ℕ) (parts : Parts) (chains : OldChains) (change : StreamChange) : Type 0 where
  pub contents : Contents
  pub has : HasContents old contents
  pub same : parts ≡ has.parts
  pub hold : Hold (container_rules old)
  pub are : AreOldChains old has.parts chains
  pub put : CanBePut chains change

-- and the file after is no longer than a file may be
pub record IsReady (old : List ℕ) (parts : Parts) (chains : OldChains) (change : StreamChange) (added : Added) : Type 0
  where
    pub can : CanSave old parts chains change
    pub is : added ≡ added_sectors old chains change
    pub fits : FitsAfter old (added_sectors old chains change)

-- the number of sectors that are too many
pub record AreTooMany (old : List ℕ) (chains : OldChains) (change : StreamChange) (sectors : ℕ) : Type 0 where
  pub many : most_sectors < sectors_after old (added_sectors old chains change)
  pub number : sectors ≡ sectors_after old (added_sectors old chains change)

abbrev pub IsSaveFault : List ℕ → OldChains → StreamChange → LayoutFault → Type 0
IsSaveFault old chains change (TooLarge count) = AreTooMany old chains change count
IsSaveFault old chains change Memory = Unit {0}
