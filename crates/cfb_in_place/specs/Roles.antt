-- Whose sectors they are in the file after.
use Rattle.std.specs.Prelude.{◌≡◌, ℕ, ◌<◌, List, ◌++◌, length, slice_index, slice_get, Some}
use Rattle.std.specs.List.{range_with_len}
use Rattle.cfb_sectors.specs.Header.{fat_sectors}
use Rattle.cfb_sectors.specs.SectorChain.{HasSector}
use Rattle.cfb_sectors.specs.Claims.{AreDistinctBelow}
use Rattle.cfb_streams.specs.StreamRules.{Parts}
use Rattle.cfb_in_place.specs.Change.{OldChains, Added, fresh_from, fat_from}
use Rattle.cfb_in_place.specs.Appended.{chain_after}
use Rattle.cfb_in_place.specs.declared.roles.Part.{Part}
use Rattle.cfb_in_place.specs.declared.roles.Part.TheVariants.{Fat, MiniFat, Directory, Grown, Fresh, Other}
use Rattle.cfb_in_place.specs.declared.roles.Role.{Role}

-- these sectors are a part's, in their order, and all others are whose they were
pub record AreGiven (old new : List Role) (sectors : List ℕ) (part : Part) : Type 0 where
  pub len : length new ≡ length old
  pub there : (i : ℕ) → i < length sectors
      → slice_get new (slice_index sectors i) ≡ Some (record { part = part; index = i })
  pub kept : (s : ℕ) → ¬ HasSector sectors s → slice_get new s ≡ slice_get old s

-- the sectors of each part after, in their order
pub record PartSectors : Type 0 where
  pub fats : List ℕ
  pub minis : List ℕ
  pub entries : List ℕ
  pub grown : List ℕ
  pub fresh : List ℕ

abbrev pub part_sectors : Parts → List ℕ → List ℕ → List ℕ → PartSectors
part_sectors parts fats grown fresh = record {
  fats = fats;
  minis = parts.mini_fat;
  entries = parts.directory;
  grown = grown;
  fresh = fresh;
}

abbrev pub sectors_of_parts : List ℕ → Parts → OldChains → Added → PartSectors
sectors_of_parts old parts chains added =
    part_sectors parts (fat_sectors old ++ range_with_len (fat_from added) added.fat) (chain_after chains added)
    (range_with_len (fresh_from added) added.fresh)

-- each sector is below a number, and no part has one twice
pub record ArePartsBelow (count : ℕ) (sectors : PartSectors) : Type 0 where
  pub fats : AreDistinctBelow count sectors.fats
  pub minis : AreDistinctBelow count sectors.minis
  pub entries : AreDistinctBelow count sectors.entries
  pub grown : AreDistinctBelow count sectors.grown
  pub fresh : AreDistinctBelow count sectors.fresh

-- the sector is there in the list
pub record IsSectorAt (sectors : List ℕ) (sector index : ℕ) : Type 0 where
  pub inside : index < length sectors
  pub here : slice_index sectors index ≡ sector

-- no part has the sector
pub record IsNoPart (sectors : PartSectors) (sector : ℕ) : Type 0 where
  pub fats : ¬ HasSector sectors.fats sector
  pub minis : ¬ HasSector sectors.minis sector
  pub entries : ¬ HasSector sectors.entries sector
  pub grown : ¬ HasSector sectors.grown sector
  pub fresh : ¬ HasSector sectors.fresh sector

-- the sector is that one of the part
abbrev pub IsOfPart : PartSectors → ℕ → ℕ → Part → Type 0
IsOfPart sectors sector index Fat = IsSectorAt sectors.fats sector index
IsOfPart sectors sector index MiniFat = IsSectorAt sectors.minis sector index
IsOfPart sectors sector index Directory = IsSectorAt sectors.entries sector index
IsOfPart sectors sector index Grown = IsSectorAt sectors.grown sector index
IsOfPart sectors sector index Fresh = IsSectorAt sectors.fresh sector index
IsOfPart sectors sector index Other = IsNoPart sectors sector

-- the role of a sector that no part has
abbrev pub other_role : Role
other_role = record { part = Other; index = 0 }

-- whose each sector is
pub record AreRoles (count : ℕ) (sectors : PartSectors) (roles : List Role) : Type 0 where
  pub len : length roles ≡ count
  pub each : (s : ℕ) (role : Role) → slice_get roles s ≡ Some role → IsOfPart sectors s role.index role.part
