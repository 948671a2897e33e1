-- A compound file: its rules as one list, and what is read from a file that breaks none.
use Rattle.std.specs.Prelude.{◌≡◌, ◌⊎◌, ℕ, List, [], length, take, slice_index, slice_get, Some, None}
use Rattle.std.specs.List.{flat_map}
use Rattle.cfb_streams.specs.Contents.{Stream, Contents, OuterContents}
use Rattle.cfb_directory.specs.Order.{ListsStreams, ListsFilled}
use Rattle.doc_bits.specs.Rules.{Rules, rule, ◌then◌, given}
use Rattle.cfb_sectors.specs.Opening.{opening_rules}
use Rattle.cfb_sectors.specs.Header.{sector_len, mini_sector_len, sector_bytes}
use Rattle.cfb_sectors.specs.HeaderRules.{header_rules}
use Rattle.cfb_sectors.specs.Chain.{fat_table, HoldsChain}
use Rattle.cfb_directory.specs.Directory.{entry_stream_size, entry_clsid, IsEntryName}
use Rattle.cfb_directory.specs.Reach.{BreaksDirectory, IsDirectory, BreaksRoot, BreaksTree, BreaksName, BreaksStorage}
use Rattle.cfb_directory.specs.Reach.{entry_place}
use Rattle.cfb_streams.specs.StreamRules.{BreaksMiniFat, IsMiniFat, BreaksMiniStream, IsMiniStream, BreaksStream}
use Rattle.cfb_streams.specs.StreamRules.{BreaksSharing, Parts}
use Rattle.cfb_directory.specs.StreamEntries.{IsStreamEntry, IsLargeStream, IsSmallStream}
use Rattle.cfb_streams.specs.StreamRules.{mini_table_of}
use Rattle.cfb_directory.specs.StreamEntries.{stream_head}

-- the rules of the streams
abbrev pub sector_rules : List ℕ → List ℕ → List ℕ → List ℕ → Rules ℕ
sector_rules file directory mini_fat mini_stream =
    rule 13 (BreaksStream file directory mini_fat)
    then rule 14 (BreaksSharing file (record { directory = directory; mini_fat = mini_fat; mini_stream = mini_stream }))

-- the rule of the mini stream, and those of the streams
abbrev pub stream_rules : List ℕ → List ℕ → List ℕ → Rules ℕ
stream_rules file directory mini_fat =
    rule 12 (BreaksMiniStream file directory) then given (IsMiniStream file directory)
    (sector_rules file directory mini_fat)

-- the rule of the mini FAT, and all that follow
abbrev pub chain_rules : List ℕ → List ℕ → Rules ℕ
chain_rules file directory = rule 11 (BreaksMiniFat file) then given (IsMiniFat file) (stream_rules file directory)

-- the rules of the directory's entries, and all that follow
abbrev pub entry_rules : List ℕ → List ℕ → Rules ℕ
entry_rules file directory =
    rule 7 (BreaksRoot file directory) then rule 8 (BreaksTree file directory) then rule 9 (BreaksName file directory)
    then rule 10 (BreaksStorage file directory) then chain_rules file directory

-- the same but for rule 10: storages may have something
abbrev pub outer_entry_rules : List ℕ → List ℕ → Rules ℕ
outer_entry_rules file directory =
    rule 7 (BreaksRoot file directory) then rule 8 (BreaksTree file directory) then rule 9 (BreaksName file directory)
    then chain_rules file directory

-- the rule of the directory's chain, and all that follow
abbrev pub directory_rules : List ℕ → Rules ℕ
directory_rules file = rule 6 (BreaksDirectory file) then given (IsDirectory file) (entry_rules file)

-- the rules 1 to 14
abbrev pub container_rules : List ℕ → Rules ℕ
container_rules file = opening_rules file then header_rules file then directory_rules file

-- the rules 1 to 14 but for rule 10
abbrev pub outer_rules : List ℕ → Rules ℕ
outer_rules file =
    opening_rules file then header_rules file then rule 6 (BreaksDirectory file)
    then given (IsDirectory file) (outer_entry_rules file)

-- the whole sectors of the mini stream, in a row
abbrev pub mini_bytes : List ℕ → Parts → List ℕ
mini_bytes file parts = flat_map (sector_bytes sector_len sector_len file) parts.mini_stream

-- the bytes of a stream that has sectors of its own
pub record IsLongBody (file directory : List ℕ) (entry : ℕ) (bytes sectors : List ℕ) : Type 0 where
  pub is_large : IsLargeStream file directory entry
  pub holds : HoldsChain (fat_table file) (stream_head file sector_len (entry_place directory entry)) sectors
  pub joined : bytes ≡ take (entry_stream_size file (entry_place directory entry))
      (flat_map (sector_bytes sector_len sector_len file) sectors)

-- the bytes of a stream that is in the mini stream, whose bytes are `stored`
pub record IsShortBody (file directory mini_fat stored : List ℕ) (entry : ℕ) (bytes : List ℕ) : Type 0 where
  pub is_small : IsSmallStream file directory entry
  pub sectors : List ℕ
  pub holds : HoldsChain (mini_table_of file directory mini_fat) (stream_head file mini_sector_len
      (entry_place directory entry)) sectors
  pub joined : bytes ≡ take (entry_stream_size file (entry_place directory entry))
      (flat_map (sector_bytes 0 mini_sector_len stored) sectors)

-- the bytes and the chain of the stream of an entry
pub record IsEmptyStream (file : List ℕ) (parts : Parts) (entry : ℕ) (stream : Stream) : Type 0 where
  pub empty : entry_stream_size file (entry_place parts.directory entry) ≡ 0
  pub bytes : stream.bytes ≡ []
  pub chain : stream.chain ≡ None

pub record IsShortStream (file : List ℕ) (parts : Parts) (entry : ℕ) (stream : Stream) : Type 0 where
  pub body : IsShortBody file parts.directory parts.mini_fat (mini_bytes file parts) entry stream.bytes
  pub chain : stream.chain ≡ None

pub record IsLongStream (file : List ℕ) (parts : Parts) (entry : ℕ) (stream : Stream) : Type 0 where
  pub sectors : List ℕ
  pub body : IsLongBody file parts.directory entry stream.bytes sectors
  pub chain : stream.chain ≡ Some sectors

-- the stream of an entry
pub record IsStreamOf (file : List ℕ) (parts : Parts) (entry : ℕ) (stream : Stream) : Type 0 where
  pub is_entry : IsStreamEntry file parts.directory entry
  pub name : IsEntryName file (entry_place parts.directory entry) stream.name
  pub holds : IsEmptyStream file parts entry
      stream ⊎ (IsShortStream file parts entry stream ⊎ IsLongStream file parts entry stream)

-- the streams of the first `count` entries, in their order
pub record AreStreamsOf (file : List ℕ) (parts : Parts) (entries : List ℕ) (count : ℕ) (streams : List Stream) : Type 0
  where
    pub len : length streams ≡ count
    pub each : (i : ℕ) (stream : Stream) → slice_get streams i ≡ Some stream →
        IsStreamOf file parts (slice_index entries i) stream

-- exactly the streams of the root, in the order of their names, and its CLSID
pub record HasContents (file : List ℕ) (contents : Contents) : Type 0 where
  pub parts : Parts
  pub directory : IsDirectory file parts.directory
  pub mini_fat : IsMiniFat file parts.mini_fat
  pub mini_stream : IsMiniStream file parts.directory parts.mini_stream
  pub entries : List ℕ
  pub lists : ListsStreams file parts.directory entries
  pub streams : AreStreamsOf file parts entries (length entries) contents.streams
  pub clsid : contents.clsid ≡ entry_clsid file (entry_place parts.directory 0)

-- the names of the first `count` entries, in their order
pub record AreNamesOf (file directory entries : List ℕ) (count : ℕ) (names : List (List ℕ)) : Type 0 where
  pub len : length names ≡ count
  pub each : (i : ℕ) (name : List ℕ) → slice_get names i ≡ Some name →
      IsEntryName file (entry_place directory (slice_index entries i)) name

-- exactly the names of the root's storages that have something, in their order
pub record ListsStorages (file : List ℕ) (names : List (List ℕ)) : Type 0 where
  pub directory : List ℕ
  pub is_directory : IsDirectory file directory
  pub entries : List ℕ
  pub lists : ListsFilled file directory entries
  pub named : AreNamesOf file directory entries (length entries) names

-- the streams of the root, its CLSID, and the names of its storages that have something
abbrev pub IsOuterOf : List ℕ → OuterContents → Type 0
IsOuterOf file outer = HasContents file outer.container × ListsStorages file outer.storages
