-- The pages of runs as a function of the runs. Specs/Pages says of pages that they are right; these are the ones that
-- are.
use Rattle.std.specs.Prelude.{Bool, nat_le, ◌&&◌, if◌then◌else◌, List, [], ◌∷◌, ◌++◌, length, map, All}
use Rattle.std.specs.List.{flat_map}
use Rattle.fkp_pages.specs.declared.kind.PageKind.{PageKind}
use Rattle.fkp_pages.specs.declared.lists.Run.{Run}
use Rattle.fkp_pages.specs.declared.packing.Pages.{Pages}
use Rattle.fkp_pages.specs.Fkp.{most_runs}
use Rattle.fkp_pages.specs.Runs.{IsWritableRun}
use Rattle.fkp_pages.specs.PageBytes.{limit_after, first_limit, entries_end, page_bytes}
use Rattle.fkp_pages.specs.Pages.{first_fc, ArePagesOf}

-- whether the runs fit into a page
abbrev pub fits_page : PageKind → List Run → Bool
fits_page kind runs = nat_le (entries_end kind (length runs)) (limit_after kind first_limit runs) && nat_le
    (length runs) (most_runs kind)

-- the runs of each page, where the page to be filled has these first runs already
unfoldable pub packed_from : PageKind → List Run → List Run → List (List Run)
packed_from kind front [] = front ∷ []
packed_from kind front (run ∷ runs) =
    if fits_page kind (front ++ run ∷ []) then packed_from kind (front ++ run ∷ []) runs else front ∷ packed_from kind
    (run ∷ []) runs

-- the runs of each page
abbrev pub packed : PageKind → List Run → List (List Run)
packed kind [] = []
packed kind (run ∷ runs) = packed_from kind (run ∷ []) runs

-- the pages of the runs
abbrev pub pages_of : PageKind → List Run → Pages
pages_of kind runs = record {
  bytes = flat_map (page_bytes kind) (packed kind runs);
  starts = map first_fc
      (packed kind runs);
}

-- these pages are right for the runs
abbrev pub RunsHavePages : Type 0
RunsHavePages = (kind : PageKind) (runs : List Run) → All (IsWritableRun kind) runs → ArePagesOf kind runs
    (pages_of kind runs)
