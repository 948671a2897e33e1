-- Runs that pages can be written of, and the bytes of their properties.
use Rattle.std.specs.Prelude.{◌≡◌, ℕ, ◌+◌, ◌<◌, ◌≤◌, ◌^◌, List, ◌++◌, length, Some, slice_get}
use Rattle.std.specs.List.{All}
use Rattle.std.specs.FinMap.{empty}
use Rattle.doc_bits.specs.Number.{number_bytes}
use Rattle.prop_map.specs.Formed.{IsPropertyMap, character_groups, paragraph_groups}
use Rattle.prop_map.specs.Printing.{printed_list}
use Rattle.fkp_pages.specs.declared.kind.PageKind.{PageKind}
use Rattle.fkp_pages.specs.declared.kind.PageKind.TheVariants.{Chpx, Papx}
use Rattle.fkp_pages.specs.declared.lists.Run.{Run}

-- the groups of sprms that a run of this kind holds
abbrev pub run_groups : PageKind → ℕ
run_groups Chpx = character_groups
run_groups Papx = paragraph_groups

-- the most bytes of a map's printed list
abbrev pub most_printed : PageKind → ℕ
most_printed Chpx = 255
most_printed Papx = 480

-- the list that is written for a run: that of a paragraph begins with its style number
abbrev pub run_list : PageKind → Run → List ℕ
run_list Chpx run = printed_list run.map
run_list Papx run = number_bytes 2 run.istd ++ printed_list run.map

-- a run for which no list is written: it has no properties, and a paragraph's style is 0
abbrev pub IsBareRun : PageKind → Run → Type 0
IsBareRun Chpx run = run.map ≡ empty
IsBareRun Papx run = (run.istd ≡ 0) × (run.map ≡ empty)

-- a run that a page can hold: it holds a place, and its map meets the line on codes and values and is short enough
pub record IsWritableRun (kind : PageKind) (run : Run) : Type 0 where
  pub order : run.from < run.to
  pub formed : IsPropertyMap (run_groups kind) run.map
  pub short : length (printed_list run.map) ≤ most_printed kind

-- the runs touch, so they ascend
pub record AreRuns (kind : PageKind) (runs : List Run) : Type 0 where
  pub writable : All (IsWritableRun kind) runs
  pub touch : (k : ℕ) (run next : Run) → slice_get runs k ≡ Some run → slice_get runs (k + 1) ≡ Some next →
      run.to ≡ next.from

-- the numbers of a run have the bits that a file has for them
pub record HasRunNumbers (run : Run) : Type 0 where
  pub from : run.from < 2 ^ 32
  pub to : run.to < 2 ^ 32
  pub istd : run.istd < 2 ^ 16
