-- One pass over the streams: what it takes, and what it reads.
use Rattle.std.specs.Prelude.{◌≡◌, ℕ, Option, Some, None, List, [], ◌∷◌, ◌++◌, length, take}
use Rattle.std.specs.List.{flat_map}
use Rattle.cfb_streams.specs.declared.gather.Taken.{Taken}
use Rattle.cfb_sectors.specs.Header.{sector_bytes}
use Rattle.cfb_sectors.specs.SectorChain.{HasSector}
use Rattle.cfb_sectors.specs.Chain.{Table, ChainHead, fat_table, HoldsChain}
use Rattle.cfb_streams.specs.StreamRules.{Owns, HasLargeSector, HasSmallSector, mini_table_of}
use Rattle.cfb_sectors.specs.Claims.{Claimed, HasFront, IsUnshared, TakesSectors, IsClosedClaim}
use Rattle.cfb_streams.specs.Sharing.{IsShareFront, IsOwnerDone}
use Rattle.cfb_streams.specs.Layout.{LayoutPlaces}
use Rattle.cfb_streams.specs.Contents.{Stream}
use Rattle.cfb_streams.specs.Container.{sector_rules}
use Rattle.doc_bits.specs.Rules.{Rules}

-- the sectors of a chain, taken, and their bytes, joined and cut
pub record IsRead (table : Table) (head : ChainHead) (base : ℕ) (stored bytes sectors : List ℕ) : Type 0 where
  pub holds : HoldsChain table head sectors
  pub joined : bytes ≡ take head.size (flat_map (sector_bytes base head.unit stored) sectors)
  pub len : length bytes ≡ head.size

-- the rules 13 and 14, on these parts
abbrev pub places_rules : LayoutPlaces → Rules ℕ
places_rules places = sector_rules places.file places.parts.directory places.parts.mini_fat places.parts.mini_stream

-- the sectors of a chain are taken
pub record TakesChain (table : Table) (head : ChainHead) (old new : Claimed) : Type 0 where
  pub sectors : List ℕ
  pub holds : HoldsChain table head sectors
  pub takes : TakesSectors (HasSector sectors) old new

-- no sector was taken twice
abbrev pub AreUnshared : Taken → Type 0
AreUnshared taken = IsUnshared taken.sectors × IsUnshared taken.minis

-- the list with a stream put last, where it is there
abbrev pub with_some : List Stream → Option Stream → List Stream
with_some streams None = streams
with_some streams (Some stream) = streams ++ stream ∷ []

-- the sectors and the mini sectors of an entry's stream are taken
pub record TakesStream (places : LayoutPlaces) (entry : ℕ) (old new : Taken) : Type 0 where
  pub sectors_taken : TakesSectors (HasLargeSector places.file places.parts.directory entry) old.sectors new.sectors
  pub minis_taken : TakesSectors (HasSmallSector places.file places.parts.directory places.parts.mini_fat entry)
      old.minis new.minis

-- there is a mark for each sector and each mini sector, and whole chains are taken
pub record HasMarks (places : LayoutPlaces) (taken : Taken) : Type 0 where
  pub for_sectors : length taken.sectors.taken ≡ (fat_table places.file).valid
  pub for_minis : length
      taken.minis.taken ≡ (mini_table_of places.file places.parts.directory places.parts.mini_fat).valid
  pub sectors_closed : IsClosedClaim (fat_table places.file) taken.sectors
  pub minis_closed : IsClosedClaim (mini_table_of places.file places.parts.directory places.parts.mini_fat) taken.minis

-- the sectors of the parts, but for the FAT, and of the first `count` streams are taken
pub record IsTakenFront (places : LayoutPlaces) (count : ℕ) (taken : Taken) : Type 0 where
  pub marks : HasMarks places taken
  pub of_sectors : IsShareFront (Owns places.file places.parts) (IsOwnerDone places.streams count) taken.sectors
  pub of_minis : IsShareFront (HasSmallSector places.file places.parts.directory places.parts.mini_fat)
      (HasFront places.streams count) taken.minis
