-- How many runs and pages added text has.
use Rattle.std.specs.Prelude.{◌≡◌, ℕ, ◌+◌, ◌*◌, ◌≤◌, List, ◌++◌, length}
use Rattle.fkp_pages.specs.declared.kind.PageKind.{PageKind}
use Rattle.fkp_pages.specs.declared.kind.PageKind.TheVariants.{Chpx, Papx}
use Rattle.fkp_pages.specs.declared.lists.Run.{Run}
use Rattle.fkp_pages.specs.declared.packing.Pages.{Pages}
use Rattle.fkp_pages.specs.Runs.{AreRuns}
use Rattle.fkp_pages.specs.Pages.{ArePagesOf}
use Rattle.doc_model.specs.declared.item.Item.{Item}
use Rattle.full_save.specs.Runs.{text_runs}
use Rattle.edit_ops.specs.Runs.{run_count}

-- the runs of characters and of paragraphs of a text, wherever it is
abbrev pub runs_of_text : ℕ → List Item → ℕ
runs_of_text at items = length (text_runs Chpx at items) + length (text_runs Papx at items)

-- they are no more than are counted, but for items behind the last paragraph mark
abbrev pub TextRunsAreCounted : Type 0
TextRunsAreCounted = (at : ℕ) (items : List Item) → runs_of_text at items ≤ run_count items + 1

-- texts that are joined have no more runs than both
abbrev pub RunCountsAdd : Type 0
RunCountsAdd = (one other : List Item) → run_count (one ++ other) ≤ run_count one + run_count other

-- pages of runs are no more than the runs, and have 512 bytes each
pub record AreFewPages (runs : List Run) (pages : Pages) : Type 0 where
  pub few : length pages.starts ≤ length runs
  pub size : length pages.bytes ≡ 512 * length pages.starts

abbrev pub PagesAreFew : Type 0
PagesAreFew =
    (kind : PageKind) (runs : List Run) (pages : Pages) → AreRuns kind runs → ArePagesOf kind runs pages →
    AreFewPages runs pages
