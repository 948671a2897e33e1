-- The runs of added paragraphs. A reader takes a run for a paragraph, so a run ends behind each mark, and nowhere else:
-- what no mark ends is a run that reaches one unit further. The first run begins where the old ranges end: what was put
-- earlier and has no run of its own is in the run of the mark that was put after it.
use Rattle.std.specs.Prelude.{ℕ, ◌+◌, ◌-◌, Bool, false, not, List, [], ◌∷◌, length, Option, Some, None, slice_get}
use Rattle.std.specs.Prelude.{is_some, if◌then◌else◌}
use Rattle.fkp_pages.specs.declared.kind.PageKind.TheVariants.{Papx}
use Rattle.fkp_pages.specs.declared.lists.Run.{Run}
use Rattle.fkp_pages.specs.PageBytes.{last_fc}
use Rattle.doc_model.specs.declared.item.Item.{Item}
use Rattle.full_save.specs.Runs.{text_runs}
use Rattle.fast_save_layout.specs.KeptBins.{kept_end}

-- whether no mark ends the last one of items
abbrev pub is_open_item : Option Item → Bool
is_open_item None = false
is_open_item (Some item) = not (is_some item.mark)

abbrev pub leaves_open : List Item → Bool
leaves_open items = is_open_item (slice_get items (length items - 1))

-- runs of which the last one holds a unit more
unfoldable pub longer : List Run → List Run
longer [] = []
longer (run ∷ []) = record run { to = run.to + 2 } ∷ []
longer (run ∷ (next ∷ runs)) = run ∷ longer (next ∷ runs)

-- runs of items, of which the last one holds a unit more where no mark ends it
abbrev pub longer_if_open : List Item → List Run → List Run
longer_if_open items runs = if leaves_open items then longer runs else runs

-- runs of which the first one begins at another place
abbrev pub runs_begun_at : ℕ → List Run → List Run
runs_begun_at place [] = []
runs_begun_at place (run ∷ runs) = record { from = place; to = run.to; istd = run.istd; map = run.map } ∷ runs

-- where a run begins that follows others, of which the first one begins at a place
abbrev pub begin_after : ℕ → List Run → ℕ → ℕ
begin_after place [] from = place
begin_after place (run ∷ runs) from = from

-- the place where runs end that begin at this one
abbrev pub runs_end : ℕ → List Run → ℕ
runs_end place [] = place
runs_end place (run ∷ runs) = last_fc (run ∷ runs)

-- the runs of items whose units are from a place on, behind the ranges that are kept of a table
abbrev pub mark_runs : List ℕ → ℕ → List Item → List Run
mark_runs table base items = runs_begun_at (kept_end table base) (longer_if_open items (text_runs Papx base items))

abbrev pub mark_runs_end : List ℕ → ℕ → List Item → ℕ
mark_runs_end table base items = runs_end (kept_end table base) (mark_runs table base items)
