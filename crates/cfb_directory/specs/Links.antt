-- Lists that the check of the links keeps: the places of all links, and for each entry the first link that names it.
use Rattle.std.specs.Prelude.{◌≡◌, ℕ, ◌<◌, ◌≤◌, ◌+◌, List, length, slice_index}
use Rattle.doc_bits.specs.Number.{u32_at}
use Rattle.cfb_sectors.specs.SectorChain.{HasSector}
use Rattle.cfb_directory.specs.Reach.{IsLink, IsWrongLink}

-- the places of the links that are checked
pub record ListsLinks (file directory links : List ℕ) : Type 0 where
  pub sound : (i : ℕ) → i < length links → IsLink file directory (slice_index links i)
  pub complete : (place : ℕ) → IsLink file directory place → HasSector links place
  pub inside : (i : ℕ) → i < length links → slice_index links i + 4 ≤ length file

-- the link at the place is one of these, and names the entry
pub record NamesEntry (file links : List ℕ) (entry place : ℕ) : Type 0 where
  pub has : HasSector links place
  pub names : u32_at file place ≡ entry

-- for each entry the least place of the first `count` links that name it, or a number above all places
pub record IsFirstNamed (file links : List ℕ) (count : ℕ) (first : List ℕ) : Type 0 where
  pub least : (i : ℕ) → i < count → u32_at file (slice_index links i) < length first →
      slice_index first (u32_at file (slice_index links i)) ≤ slice_index links i
  pub named : (entry : ℕ) → entry < length first → slice_index first entry < length file →
      NamesEntry file links entry (slice_index first entry)

-- the link at a place is wrong
pub record IsWrongLinkAt (file directory : List ℕ) (link place : ℕ) : Type 0 where
  pub here : place ≡ link
  pub wrong : IsWrongLink file directory place
