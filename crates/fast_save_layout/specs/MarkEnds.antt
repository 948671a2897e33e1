-- Where the runs of added paragraphs end: with the marks that were added, and nowhere else.
use Rattle.std.specs.Prelude.{◌≡◌, ℕ, ◌+◌, ◌*◌, ◌<◌, true, false, List, Some, slice_get, is_some}
use Rattle.fkp_pages.specs.declared.lists.Run.{Run}
use Rattle.fkp_pages.specs.Rows.{IsInRun}
use Rattle.doc_model.specs.declared.item.Item.{Item}
use Rattle.fast_save_layout.specs.MarkRuns.{mark_runs}

-- the run that holds the unit of an item, which is at a place, ends with the unit where a mark ends the item, and
-- beyond it where none does
pub record RunEndsWithMark (runs : List Run) (at : ℕ) (item : Item) : Type 0 where
  pub run : Run
  pub in_run : IsInRun runs at run
  pub mark_ends : is_some item.mark ≡ true → run.to ≡ at + 2
  pub goes_on : is_some item.mark ≡ false → at + 2 < run.to

-- each added unit has such a run, behind whatever table
abbrev pub RunsEndWithMarks : Type 0
RunsEndWithMarks =
    (table : List ℕ) (base : ℕ) (items : List Item) (k : ℕ) (item : Item) → slice_get items k ≡ Some item →
    RunEndsWithMark (mark_runs table base items) (base + 2 * k) item
