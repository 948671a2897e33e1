-- The entries of a directory that breaks none of the rules 6 to 9.
use Rattle.std.specs.Prelude.{◌≡◌, ℕ, List}
use Rattle.doc_bits.specs.Rules.{Rules, rule, ◌then◌, Nowhere}
use Rattle.cfb_directory.specs.declared.body.Body.{Body}
use Rattle.cfb_directory.specs.declared.body.Body.TheVariants.{Empty, Short, Long}
use Rattle.cfb_sectors.specs.Chain.{AreSectorsOf}
use Rattle.cfb_sectors.specs.Header.{sector_len, mini_sector_len}
use Rattle.cfb_directory.specs.Directory.{entry_stream_size}
use Rattle.cfb_directory.specs.Reach.{entry_place, IsDirectory, ListsReached, BreaksRoot, BreaksTree, BreaksName}
use Rattle.cfb_directory.specs.StreamEntries.{IsLargeStream, IsSmallStream, stream_head}
use Rattle.cfb_directory.specs.Order.{ListsStreams}

-- the rules on the entries that the root reaches
abbrev pub tree_rules : List ℕ → List ℕ → Rules ℕ
tree_rules file directory =
    rule 7 (BreaksRoot file directory) then rule 8 (BreaksTree file directory) then rule 9 (BreaksName file directory)

-- the directory's sectors, the entries that the root reaches, and those of the streams in the order of their names
pub record EntryLists : Type 0 where
  pub file : List ℕ
  pub directory : List ℕ
  pub reached : List ℕ
  pub streams : List ℕ

abbrev pub entry_lists_of : List ℕ → List ℕ → List ℕ → List ℕ → EntryLists
entry_lists_of file directory reached streams = record
    { file = file; directory = directory; reached = reached; streams = streams }

-- what the rules 6 to 9 promise of them
pub record AreSoundEntries (entries : EntryLists) : Type 0 where
  pub is_directory : IsDirectory entries.file entries.directory
  pub inside : AreSectorsOf entries.file entries.directory
  pub lists : ListsReached entries.file entries.directory entries.reached
  pub root : Nowhere (BreaksRoot entries.file entries.directory)
  pub tree : Nowhere (BreaksTree entries.file entries.directory)
  pub names : Nowhere (BreaksName entries.file entries.directory)
  pub in_order : ListsStreams entries.file entries.directory entries.streams

-- what the stream of an entry has: nothing, a chain of mini sectors, or one of sectors
abbrev pub IsBody : List ℕ → List ℕ → ℕ → Body → Type 0
IsBody file directory entry Empty = entry_stream_size file (entry_place directory entry) ≡ 0
IsBody file directory entry (Short claim) = IsSmallStream file directory
    entry × (claim ≡ stream_head file mini_sector_len (entry_place directory entry))
IsBody file directory entry (Long claim) = IsLargeStream file directory
    entry × (claim ≡ stream_head file sector_len (entry_place directory entry))
