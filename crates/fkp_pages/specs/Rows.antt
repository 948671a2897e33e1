-- Runs whose pages are one after the other in a WordDocument, and the bin tables that name these pages: the row's
-- own,
-- and ones that keep ranges of an older table before them.
use Rattle.std.specs.Prelude.{◌≡◌, ◌⊎◌, ℕ, ◌+◌, ◌*◌, ◌^◌, ◌<◌, ◌≤◌, List, ◌++◌, length, Some, All, slice_get}
use Rattle.std.specs.Prelude.{slice_index}
use Rattle.doc_bits.specs.Plc.{plc_cp}
use Rattle.fkp_pages.specs.declared.kind.PageKind.{PageKind}
use Rattle.fkp_pages.specs.declared.lists.Bin.{Bin}
use Rattle.fkp_pages.specs.declared.lists.Run.{Run}
use Rattle.fkp_pages.specs.declared.packing.Pages.{Pages}
use Rattle.fkp_pages.specs.Bin.{ArePrintableBins, IsBinPage, IsBinTable, bin_count, bin_fcs, page_number, printed_bin}
use Rattle.fkp_pages.specs.Runs.{AreRuns, HasRunNumbers}
use Rattle.fkp_pages.specs.PageBytes.{last_fc}
use Rattle.fkp_pages.specs.Pages.{ArePagesOf}
use Rattle.fkp_pages.specs.InARow.{numbered_bins}

-- the run holds the place
pub record IsInRun (runs : List Run) (fc : ℕ) (run : Run) : Type 0 where
  pub number : ℕ
  pub there : slice_get runs number ≡ Some run
  pub from : run.from ≤ fc
  pub to : fc < run.to

-- the pages of runs are in a row in WordDocument, from the page of a number on, behind the FIB
pub record IsPageRow (kind : PageKind) (wd : List ℕ) (runs : List Run) (first : ℕ) : Type 0 where
  pub pages : Pages
  pub before : List ℕ
  pub behind : List ℕ
  pub right : AreRuns kind runs
  pub numbers : All HasRunNumbers runs
  pub pages_are : ArePagesOf kind runs pages
  pub some : 0 < length runs
  pub low : 2 ≤ first
  pub high : first + length pages.starts ≤ 2 ^ 22
  pub begins : length before ≡ 512 * first
  pub there : wd ≡ before ++ (pages.bytes ++ behind)

-- the ranges of the pages of a row, and the table of these alone
abbrev pub row_bins :
    {kind : PageKind} {wd : List ℕ} {runs : List Run} {first : ℕ} → IsPageRow kind wd runs first → List Bin
row_bins {first = first} row = numbered_bins first row.pages.starts

abbrev pub row_table :
    {kind : PageKind} {wd : List ℕ} {runs : List Run} {first : ℕ} → IsPageRow kind wd runs first → List ℕ
row_table {runs = runs} row = printed_bin (row_bins row) (last_fc runs)

-- a table names at each place the page that the table of the row names there
abbrev pub NamesRow :
    {kind : PageKind} {wd : List ℕ} {runs : List Run} {first : ℕ} → IsPageRow kind wd runs first → List ℕ → Type 0
NamesRow row table = (fc number : ℕ) → IsBinPage (row_table row) fc number → IsBinPage table fc number

-- a table has the ranges of an older one that begin before a place, and perhaps further ones behind them. One of them
-- may end later than it did, or at the place or behind it
pub record KeepsRanges (old new : List ℕ) (before : ℕ) : Type 0 where
  pub count : ℕ
  pub fewer : count ≤ bin_count old
  pub there : count ≤ bin_count new
  pub first : (k : ℕ) → k < count → plc_cp new k ≡ plc_cp old k
  pub page : (k : ℕ) → k < count → page_number new k ≡ page_number old k
  pub ends :
      (k : ℕ) → k < count → (plc_cp old (k + 1) ≤ plc_cp new (k + 1)) ⊎ (before ≤ plc_cp new (k + 1))
  pub all : (k : ℕ) → k < bin_count old → count ≤ k → before ≤ plc_cp old k

-- the ranges are those of a table that begin before a place
pub record AreRangesBefore (old : List ℕ) (before : ℕ) (bins : List Bin) : Type 0 where
  pub fewer : length bins ≤ bin_count old
  pub each :
      (k : ℕ) (bin : Bin) → slice_get bins k ≡ Some bin →
      (bin.first ≡ plc_cp old k) × (bin.page ≡ page_number old k)
  pub all : (k : ℕ) → k < bin_count old → length bins ≤ k → before ≤ plc_cp old k

-- a table names at each place before this one what an older table does, and behind it the pages of a row
pub record NamesBoth
    {kind : PageKind} {wd : List ℕ} {runs : List Run} {first : ℕ} (row : IsPageRow kind wd runs first)
    (old new : List ℕ) (before : ℕ) : Type 0 where
  pub table : IsBinTable new
  pub some : 1 ≤ bin_count new
  pub keeps : KeepsRanges old new before
  pub names : NamesRow row new

-- a table of the ranges of an old table that begin before a place, and then of those of a row that begins there or
-- behind it, names both
abbrev pub LongerTablesNameBoth : Type 0
LongerTablesNameBoth =
    (kind : PageKind) (wd : List ℕ) (runs : List Run) (first before : ℕ) (old : List ℕ) (bins : List Bin)
    (row : IsPageRow kind wd runs first) →
    AreRangesBefore old before bins →
    ArePrintableBins (bins ++ row_bins row) (last_fc runs) →
    before ≤ slice_index (bin_fcs (row_bins row) (last_fc runs)) 0 →
    NamesBoth row old (printed_bin (bins ++ row_bins row) (last_fc runs)) before
