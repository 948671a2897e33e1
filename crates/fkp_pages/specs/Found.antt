-- Each run is found again at each of its places, in the pages that are written and through the bin table that names
-- them.
use Rattle.std.specs.Prelude.{◌≡◌, ℕ, ◌+◌, ◌*◌, ◌<◌, ◌≤◌, ◌^◌, List, length, map, drop, All, Some, slice_get}
use Rattle.std.specs.Prelude.{slice_index}
use Rattle.doc_bits.specs.Number.{u16_at}
use Rattle.prop_map.specs.Printing.{IsPrintOf}
use Rattle.fkp_pages.specs.declared.kind.PageKind.{PageKind}
use Rattle.fkp_pages.specs.declared.kind.PageKind.TheVariants.{Chpx, Papx}
use Rattle.fkp_pages.specs.declared.kind.RunAnswer.{RunAnswer}
use Rattle.fkp_pages.specs.declared.kind.RunAnswer.TheVariants.{Found, Empty}
use Rattle.fkp_pages.specs.declared.lists.Bin.{Bin}
use Rattle.fkp_pages.specs.declared.lists.Run.{Run}
use Rattle.fkp_pages.specs.declared.packing.Pages.{Pages}
use Rattle.fkp_pages.specs.Fkp.{HasRunAnswer}
use Rattle.fkp_pages.specs.Bin.{bin_fcs, page_at, IsBinTableOf}
use Rattle.fkp_pages.specs.Properties.{IsListAnswered, HasListAt}
use Rattle.fkp_pages.specs.Runs.{run_list, IsBareRun, IsWritableRun, AreRuns}
pub use Rattle.fkp_pages.specs.Runs.{HasRunNumbers}
use Rattle.fkp_pages.specs.PageBytes.{last_fc}
use Rattle.fkp_pages.specs.Pages.{ArePagesOf}

-- the sprms of a list: those of a paragraph are behind its style number
abbrev pub sprms_of : PageKind → List ℕ → List ℕ
sprms_of Chpx list = list
sprms_of Papx list = drop 2 list

-- the list has the style number of a paragraph, and acting with its sprms on the empty map gives the properties of the
-- run
pub record IsListOfRun (kind : PageKind) (run : Run) (list : List ℕ) : Type 0 where
  pub istd : kind ≡ Papx → u16_at list 0 ≡ run.istd
  pub properties : IsPrintOf run.map (sprms_of kind list)

-- a page answers with the list of the run: with none where the run has no properties and a paragraph the style 0, else
-- with its range
pub record FindsRun (kind : PageKind) (page : List ℕ) (fc : ℕ) (run : Run) : Type 0 where
  pub size : length page ≡ 512
  pub answer : RunAnswer
  pub answers : HasRunAnswer kind page fc answer
  pub list : IsListAnswered kind page answer (run_list kind run)
  pub bare : IsBareRun kind run → answer ≡ Empty
  pub listed : ¬ (IsBareRun kind run) → (from : ℕ) × ((to : ℕ) × (answer ≡ Found from to))

-- one of the pages finds the run
pub record IsRunFoundIn (kind : PageKind) (pages : Pages) (fc : ℕ) (run : Run) : Type 0 where
  pub page : ℕ
  pub within : page < length pages.starts
  pub finds : FindsRun kind (page_at pages.bytes page) fc run

-- each run is found at each of its places in one of the pages
abbrev pub RunsAreFound : Type 0
RunsAreFound =
    (kind : PageKind) (runs : List Run) (pages : Pages) (i : ℕ) (run : Run) (fc : ℕ) →
    AreRuns kind runs → All HasRunNumbers runs → ArePagesOf kind runs pages →
    slice_get runs i ≡ Some run → run.from ≤ fc → fc < run.to →
    IsRunFoundIn kind pages fc run

-- where pages are: `WordDocument`, the ranges of a bin table with its end, and the range of the first one of the
-- pages
pub record Placement : Type 0 where
  pub wd : List ℕ
  pub bins : List Bin
  pub end : ℕ
  pub first : ℕ

-- the fc where a range of the table begins
abbrev pub range_fc : Placement → ℕ → ℕ
range_fc placement k = slice_index (bin_fcs placement.bins placement.end) (placement.first + k)

-- the number of the page of a range
abbrev pub range_page : Placement → ℕ → ℕ
range_page placement k = slice_index (map (λ bin. bin.page) placement.bins) (placement.first + k)

-- the table names the pages one after the other, by their first fcs, and they are where it says; what it names
-- after them
-- begins where the last run ends, or later
pub record ArePlaced (runs : List Run) (pages : Pages) (placement : Placement) : Type 0 where
  pub within : placement.first + length pages.starts ≤ length placement.bins
  pub starts : (k : ℕ) → k < length pages.starts → range_fc placement k ≡ slice_index pages.starts k
  pub after : last_fc runs ≤ range_fc placement (length pages.starts)
  pub inside : (k : ℕ) → k < length pages.starts → 512 * range_page placement k + 512 ≤ length placement.wd
  pub bytes : (k : ℕ) → k < length pages.starts → page_at placement.wd (range_page placement k) ≡ page_at pages.bytes k

-- each place of a run has the list of the run, through the bin table
abbrev pub PlacesHaveLists : Type 0
PlacesHaveLists =
    (kind : PageKind) (runs : List Run) (pages : Pages) (placement : Placement) (table : List ℕ) (i : ℕ) (run : Run)
    (fc : ℕ) →
    AreRuns kind runs → All HasRunNumbers runs → ArePagesOf kind runs pages →
    ArePlaced runs pages placement → IsBinTableOf placement.bins placement.end table →
    slice_get runs i ≡ Some run → run.from ≤ fc → fc < run.to →
    HasListAt kind table placement.wd fc (run_list kind run)

-- the list of a run has its style number and its properties
abbrev pub ListsHaveProperties : Type 0
ListsHaveProperties =
    (kind : PageKind) (run : Run) → IsWritableRun kind run → run.istd < 2 ^ 16 → IsListOfRun kind run (run_list kind
    run)
