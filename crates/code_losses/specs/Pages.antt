-- [MS-DOC] ChpxFkp, PapxFkp: the lists of the runs of the pages that a bin table names, each page once.
use Rattle.std.specs.Prelude.{◌≡◌, ◌⊎◌, ℕ, ◌+◌, ◌/◌, ◌≤◌, true, List, [], ◌++◌, length}
use Rattle.std.specs.Prelude.{slice_get, slice_range, Some}
use Rattle.std.specs.List.{flat_map}
use Rattle.sprm_table.specs.Sprm.{Prl}
use Rattle.fkp_pages.specs.declared.kind.PageKind.{PageKind}
use Rattle.fkp_pages.specs.Fkp.{HasRunCount, page_run_count, least_list, IsListOf}
use Rattle.fkp_pages.specs.Bin.{page_at}
use Rattle.page_copies.specs.Names.{names_page}
use Rattle.code_losses.specs.declared.counts.CodeCounts.{CodeCounts}
use Rattle.code_losses.specs.Counted.{IsFoundPrlList, AreCodeCounts}

-- the lists of so many parts, one after the other
pub record AreJoined (is : ℕ → List (List Prl) → Type 0) (count : ℕ) (lists : List (List Prl)) : Type 0 where
  pub parts : List (List (List Prl))
  pub len : length parts ≡ count
  pub each : (k : ℕ) (part : List (List Prl)) → slice_get parts k ≡ Some part → is k part
  pub joined : lists ≡ flat_map (λ part. part) parts

-- the list of a run, behind a paragraph's style number
pub record IsRunList (kind : PageKind) (page : List ℕ) (run : ℕ) (found : List (List Prl)) : Type 0 where
  pub from : ℕ
  pub to : ℕ
  pub list : IsListOf kind page run from to
  pub found_is : IsFoundPrlList (slice_range page (from + least_list kind) to) found

-- the run has no list in the page
pub record FindsNoList (kind : PageKind) (page : List ℕ) (run : ℕ) (found : List (List Prl)) : Type 0 where
  pub none : (from to : ℕ) → ¬ (IsListOf kind page run from to)
  pub nothing : found ≡ []

abbrev pub IsFoundInRun : PageKind → List ℕ → ℕ → List (List Prl) → Type 0
IsFoundInRun kind page run found = IsRunList kind page run found ⊎ FindsNoList kind page run found

-- the lists of the runs of a page
abbrev pub AreListsOfPage : PageKind → List ℕ → List (List Prl) → Type 0
AreListsOfPage kind page lists = AreJoined (IsFoundInRun kind page) (page_run_count page) lists

-- a page that does not lie over the FIB, is named, and has runs
pub record HasRuns (kind : PageKind) (wd bin : List ℕ) (number : ℕ) : Type 0 where
  pub low : 2 ≤ number
  pub named : names_page bin number ≡ true
  pub counted : HasRunCount kind (page_at wd number)

-- the lists of page `number` of a stream, where it is such a page
abbrev pub IsFoundInPage : PageKind → (wd bin : List ℕ) → ℕ → List (List Prl) → Type 0
IsFoundInPage kind wd bin number found =
    (HasRuns kind wd bin number × AreListsOfPage kind (page_at wd number) found)
    ⊎ ((¬ (HasRuns kind wd bin number)) × (found ≡ []))

-- those of all whole pages
abbrev pub AreListsOfPages : PageKind → (wd bin : List ℕ) → List (List Prl) → Type 0
AreListsOfPages kind wd bin lists = AreJoined (IsFoundInPage kind wd bin) (length wd / 512) lists

-- the lists of so many parts are counted besides
pub record CountsJoined
    (is : ℕ → List (List Prl) → Type 0) (count : ℕ) (lists : List (List Prl)) (new : CodeCounts) : Type 0 where
  pub found : List (List Prl)
  pub are : AreJoined is count found
  pub counted : AreCodeCounts (lists ++ found) new
