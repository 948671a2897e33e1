-- The pages of runs.
use Rattle.std.specs.Prelude.{◌≡◌, ℕ, ◌+◌, ◌*◌, ◌<◌, ◌≤◌, List, [], ◌∷◌, ◌++◌, length, map, slice_index}
use Rattle.std.specs.List.{flat_map}
use Rattle.fkp_pages.specs.declared.kind.PageKind.{PageKind}
use Rattle.fkp_pages.specs.declared.lists.Run.{Run}
use Rattle.fkp_pages.specs.declared.packing.Pages.{Pages}
use Rattle.fkp_pages.specs.Packing.{IsPacking}
use Rattle.fkp_pages.specs.Runs.{IsWritableRun, AreRuns}
use Rattle.fkp_pages.specs.PageBytes.{FitsPage, last_fc, page_bytes}

-- where the first run of a page begins
abbrev pub first_fc : List Run → ℕ
first_fc runs = slice_index (map (λ run. run.from) runs) 0

-- the pages of a packing of the runs, one after the other, and the first fc of each
pub record ArePagesOf (kind : PageKind) (runs : List Run) (pages : Pages) : Type 0 where
  pub parts : List (List Run)
  pub packed : IsPacking (FitsPage kind) runs parts
  pub bytes : pages.bytes ≡ flat_map (page_bytes kind) parts
  pub starts : pages.starts ≡ map first_fc parts

-- runs are put onto pages in one way at most
abbrev pub PackingIsOne : Type 0
PackingIsOne =
    (kind : PageKind) (runs : List Run) (one other : List (List Run)) →
    IsPacking (FitsPage kind) runs one → IsPacking (FitsPage kind) runs other → one ≡ other

-- so runs have one list of pages
abbrev pub PagesAreOne : Type 0
PagesAreOne =
    (kind : PageKind) (runs : List Run) (one other : Pages) → ArePagesOf kind runs one → ArePagesOf kind runs other →
    one ≡ other

-- a run alone fits into a page
abbrev pub RunFitsAlone : Type 0
RunFitsAlone = (kind : PageKind) (run : Run) → IsWritableRun kind run → FitsPage kind (run ∷ [])

-- pages have 512 bytes each, begin with the first run, and the first fc of each is below that of the next one, or
-- below the
-- end of the last run
pub record AreWholePages (runs : List Run) (pages : Pages) : Type 0 where
  pub size : length pages.bytes ≡ 512 * length pages.starts
  pub few : length pages.starts ≤ length runs
  pub some : 0 < length runs → 0 < length pages.starts
  pub first : 0 < length runs → slice_index pages.starts 0 ≡ first_fc runs
  pub ascend :
      (k : ℕ) → k < length pages.starts →
      slice_index (pages.starts ++ last_fc runs ∷ []) k < slice_index (pages.starts ++ last_fc runs ∷ []) (k + 1)

abbrev pub PagesAreWhole : Type 0
PagesAreWhole = (kind : PageKind) (runs : List Run) (pages : Pages) → AreRuns kind runs → ArePagesOf kind runs pages →
    AreWholePages runs pages
