-- Pages that are one after the other in `WordDocument`, and the ranges of a bin table that name them.
use Rattle.std.specs.Prelude.{◌≡◌, ℕ, ◌+◌, ◌*◌, ◌<◌, ◌≤◌, ◌^◌, List, [], ◌∷◌, ◌++◌, length}
use Rattle.fkp_pages.specs.declared.kind.PageKind.{PageKind}
use Rattle.fkp_pages.specs.declared.lists.Bin.{Bin}
use Rattle.fkp_pages.specs.declared.lists.Run.{Run}
use Rattle.fkp_pages.specs.declared.packing.Pages.{Pages}
use Rattle.fkp_pages.specs.Bin.{ArePrintableBins}
use Rattle.fkp_pages.specs.Runs.{AreRuns}
use Rattle.fkp_pages.specs.PageBytes.{last_fc}
use Rattle.fkp_pages.specs.Pages.{ArePagesOf}
use Rattle.fkp_pages.specs.Found.{Placement, ArePlaced}

-- the ranges of pages with these first fcs, which are numbered from a number on
unfoldable pub numbered_bins : ℕ → List ℕ → List Bin
numbered_bins number [] = []
numbered_bins number (start ∷ starts) = record { first = start; page = number } ∷ numbered_bins (number + 1) starts

-- `WordDocument` with the pages between other bytes, and the ranges of these pages alone
abbrev pub row_placement : List Run → Pages → ℕ → List ℕ → List ℕ → Placement
row_placement runs pages number before behind = record {
  wd = before ++ (pages.bytes ++ behind);
  bins = numbered_bins number pages.starts;
  end = last_fc runs;
  first = 0;
}

-- behind so many times 512 bytes, the pages are where the ranges say
abbrev pub PagesStandInARow : Type 0
PagesStandInARow =
    (kind : PageKind) (runs : List Run) (pages : Pages) (number : ℕ) (before behind : List ℕ) →
    AreRuns kind runs → ArePagesOf kind runs pages → length before ≡ 512 * number →
    ArePlaced runs pages (row_placement runs pages number before behind)

-- and the ranges are ones that a bin table can have
abbrev pub RowIsPrintable : Type 0
RowIsPrintable =
    (kind : PageKind) (runs : List Run) (pages : Pages) (number : ℕ) →
    AreRuns kind runs → ArePagesOf kind runs pages → 0 < length runs → number + length pages.starts ≤ 2 ^ 22 →
    ArePrintableBins (numbered_bins number pages.starts) (last_fc runs)
