-- The entries of the FAT and of the mini FAT before and after, entry by entry.
use Rattle.std.specs.Prelude.{◌≡◌, ◌≢◌, ℕ, ◌+◌, ◌-◌, ◌*◌, ◌<◌, ◌≤◌, List, [], ◌∷◌, length, slice_index}
use Rattle.doc_bits.specs.Number.{u32_at}
use Rattle.cfb_sectors.specs.Header.{fat_sector_count, table_place}
use Rattle.cfb_sectors.specs.SectorChain.{HasSector, last_of}
use Rattle.cfb_sectors.specs.Chain.{fat_table}
use Rattle.cfb_layout.specs.Sectors.{chains_from, free_sector, fat_sector_mark}
use Rattle.cfb_in_place.specs.Change.{OldChains, Added, fat_from, end_of}

-- the added sectors: a chain behind the old one, a chain of its own, and those of the FAT
pub record ChangesFat (old new : ℕ → ℕ) (chains : OldChains) (added : Added) (covered : ℕ) : Type 0 where
  pub kept : (s : ℕ) → s < added.from → (0 < added.grown → s ≢ last_of chains.grown) → ¬ HasSector chains.freed s
      → new s ≡ old s
  pub free : (s : ℕ) → HasSector chains.freed s → new s ≡ free_sector
  pub joined : 0 < added.grown → new (last_of chains.grown) ≡ added.from
  pub chained : (s t : ℕ) → s < added.grown + added.fresh → t ≡ added.from + s → new t ≡ slice_index
      (chains_from added.from (added.grown ∷ (added.fresh ∷ []))) s
  pub marks : (s : ℕ) → fat_from added ≤ s → s < end_of added → new s ≡ fat_sector_mark
  pub unused : (s : ℕ) → end_of added ≤ s → s < covered → new s ≡ free_sector

-- an entry from the first added sector on
pub record IsNewEntry (added : Added) (s entry : ℕ) : Type 0 where
  pub chained : s < fat_from added → entry ≡ slice_index (chains_from added.from (added.grown ∷ (added.fresh ∷ [])))
      (s - added.from)
  pub mark : fat_from added ≤ s → s < end_of added → entry ≡ fat_sector_mark
  pub unused : end_of added ≤ s → entry ≡ free_sector

-- the entry of a mini sector
abbrev pub mini_entry : List ℕ → List ℕ → ℕ → ℕ
mini_entry file mini_fat s = u32_at file (table_place (λ k. slice_index mini_fat k) s)

-- mini sectors are left, and nothing else
pub record ChangesTables (old new mini_fat : List ℕ) (chains : OldChains) (added : Added) : Type 0 where
  pub fat : ChangesFat (fat_table old).entry (fat_table new).entry chains added (128 * fat_sector_count new)
  pub free_mini : (s : ℕ) → HasSector chains.freed_mini s → mini_entry new mini_fat s ≡ free_sector
  pub kept_mini : (s : ℕ) → s < 128 * length mini_fat → ¬ HasSector chains.freed_mini s
      → mini_entry new mini_fat s ≡ mini_entry old mini_fat s

-- the entries that are there have one for each sector but the added ones, and the change hits those alone
pub record CanChangeFat (entries : List ℕ) (chains : OldChains) (added : Added) (covered : ℕ) : Type 0 where
  pub some : 0 < length chains.grown
  pub last : last_of chains.grown < added.from
  pub freed : (s : ℕ) → HasSector chains.freed s → s < added.from
  pub apart : ¬ HasSector chains.freed (last_of chains.grown)
  pub from : added.from ≤ length entries
  pub holds : end_of added ≤ covered

-- the entries that are there after those that change
pub record AreOldEntries (old new : List ℕ) (chains : OldChains) (added : Added) : Type 0 where
  pub len : length new ≡ length old
  pub kept : (s : ℕ) → s < added.from → (0 < added.grown → s ≢ last_of chains.grown) → ¬ HasSector chains.freed s
      → slice_index new s ≡ slice_index old s
  pub free : (s : ℕ) → HasSector chains.freed s → slice_index new s ≡ free_sector
  pub joined : 0 < added.grown → slice_index new (last_of chains.grown) ≡ added.from

-- the entry of a sector after: one of those that are there, or a new one
pub record IsEntryAfter (entries : List ℕ) (added : Added) (s entry : ℕ) : Type 0 where
  pub old : s < added.from → entry ≡ slice_index entries s
  pub new : added.from ≤ s → IsNewEntry added s entry

-- these entries of a table became FREESECT, and all others stay
pub record AreFreed (old new freed : List ℕ) : Type 0 where
  pub len : length new ≡ length old
  pub free : (s : ℕ) → HasSector freed s → slice_index new s ≡ free_sector
  pub kept : (s : ℕ) → ¬ HasSector freed s → slice_index new s ≡ slice_index old s
