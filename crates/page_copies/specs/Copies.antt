-- A page with the codes that are not read skipped: its fcs, its entries, and where its lists are are as they were.
use Rattle.std.specs.Prelude.{◌≡◌, ◌⊎◌, ℕ, ◌+◌, ◌-◌, ◌<◌, List, length, take, drop, slice_index}
use Rattle.std.specs.Prelude.{slice_range}
use Rattle.prl_skips.specs.Skips.{SkipsOrStays, PutsSkipped}
use Rattle.fkp_pages.specs.declared.kind.PageKind.{PageKind}
use Rattle.fkp_pages.specs.Fkp.{page_run_count, run_entry_place, least_list, IsListOf}
use Rattle.page_copies.specs.declared.places.ListPlace.{ListPlace}
use Rattle.page_copies.specs.Places.{HasNoList, IsPlaceOf, IsInNoList}

-- the codes in the list of a run are skipped: the style number of a paragraph stays
pub record SkipsList (kind : PageKind) (old new : List ℕ) : Type 0 where
  pub istd : take (least_list kind) new ≡ take (least_list kind) old
  pub sprms : SkipsOrStays (drop (least_list kind) old) (drop (least_list kind) new)

-- the copy of a page: the codes in its lists are skipped, and no other byte changes
pub record IsCopyOf (kind : PageKind) (old new : List ℕ) : Type 0 where
  pub size : length new ≡ length old
  pub front : take (run_entry_place kind old (page_run_count old)) new ≡ take (run_entry_place kind old (page_run_count
      old)) old
  pub count : page_run_count new ≡ page_run_count old
  pub lists : (run from to : ℕ) → run < page_run_count old → IsListOf kind old run from to →
      IsListOf kind new run from to × SkipsList kind (slice_range old from to) (slice_range new from to)
  pub outside : (i : ℕ) → IsInNoList kind old i → slice_index new i ≡ slice_index old i

-- the sprms of the run's list are skipped, where it has one
pub record SkipsAt (kind : PageKind) (run : ℕ) (old new : List ℕ) : Type 0 where
  pub place : ListPlace
  pub is : IsPlaceOf kind old run place
  pub puts : PutsSkipped old new (place.from + least_list kind) place.to

abbrev pub SkipsRun : PageKind → ℕ → List ℕ → List ℕ → Type 0
SkipsRun kind run old new = (HasNoList kind old run × (new ≡ old)) ⊎ SkipsAt kind run old new
