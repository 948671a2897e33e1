-- Where the lists of a page are.
use Rattle.std.specs.Prelude.{◌≡◌, ◌⊎◌, ℕ, ◌*◌, ◌<◌, ◌≤◌, List}
use Rattle.fkp_pages.specs.declared.kind.PageKind.{PageKind}
use Rattle.fkp_pages.specs.Fkp.{page_run_count, run_entry_place, entry_byte, IsListOf}
use Rattle.page_copies.specs.declared.places.ListPlace.{ListPlace}

-- the run has no list in the page
abbrev pub HasNoList : PageKind → List ℕ → ℕ → Type 0
HasNoList kind page run = (from to : ℕ) → ¬ (IsListOf kind page run from to)

-- the properties of the run are there, with the list
pub record IsPlaceOf (kind : PageKind) (page : List ℕ) (run : ℕ) (place : ListPlace) : Type 0 where
  pub at : place.at ≡ 2 * entry_byte kind page run
  pub list : IsListOf kind page run place.from place.to

-- two lists are one or apart, each with the bytes before it that say its length
abbrev pub StandApart : ListPlace → ListPlace → Type 0
StandApart one other = (one.at ≡ other.at) ⊎ ((one.to ≤ other.at) ⊎ (other.to ≤ one.at))

-- the list is so to that of a run
abbrev pub IsApartFrom : PageKind → List ℕ → ListPlace → ℕ → Type 0
IsApartFrom kind page place run = (other : ListPlace) → IsPlaceOf kind page run other → StandApart place other

-- a list is behind the entries, and so to those of all runs
pub record StandsClear (kind : PageKind) (page : List ℕ) (place : ListPlace) : Type 0 where
  pub behind : run_entry_place kind page (page_run_count page) ≤ place.at
  pub apart : (run : ℕ) → run < page_run_count page → IsApartFrom kind page place run

-- the run has no properties, or its list is in the page as it was
pub record HasClearList (kind : PageKind) (page : List ℕ) (run : ℕ) : Type 0 where
  pub place : ListPlace
  pub is : IsPlaceOf kind page run place
  pub clear : StandsClear kind page place

abbrev pub IsClearRun : PageKind → List ℕ → ℕ → Type 0
IsClearRun kind page run = (entry_byte kind page run ≡ 0) ⊎ HasClearList kind page run

-- the lists of all runs do
abbrev pub HasListsApart : PageKind → List ℕ → Type 0
HasListsApart kind page = (run : ℕ) → run < page_run_count page → IsClearRun kind page run

-- no list holds the byte
abbrev pub IsInNoList : PageKind → List ℕ → ℕ → Type 0
IsInNoList kind page i = (run : ℕ) (p : ListPlace) → run < page_run_count page → IsPlaceOf kind page run p →
    (i < p.from) ⊎ (p.to ≤ i)
