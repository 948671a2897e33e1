-- A text that is gone through once: its closed runs, of which the first one begins at another place.
use Rattle.std.specs.Prelude.{◌≡◌, ℕ, ◌+◌, ◌*◌, ◌<◌, true, false, List, [], ◌∷◌, ◌++◌, length, map, take, Option, Some}
use Rattle.fkp_pages.specs.declared.lists.Run.{Run}
use Rattle.run_lists.specs.declared.runs.Run.{Run as ValueRun}
use Rattle.run_lists.specs.Spread.{expanded}
use Rattle.doc_model.specs.declared.item.Mark.{Mark}
use Rattle.doc_model.specs.declared.item.Item.{Item}
use Rattle.doc_columns.specs.declared.attached.Attached.{Attached}
use Rattle.doc_columns.specs.Attached.{attached_of}
use Rattle.full_save.specs.Alike.{HaveAlike}
use Rattle.full_save.specs.RunsSoFar.{AreParagraphsSoFar}
use Rattle.fast_save_layout.specs.declared.runs.ParagraphRuns.{ParagraphRuns}
use Rattle.fast_save_layout.specs.MarkRuns.{leaves_open, runs_begun_at}

-- no mark ends the last item exactly where some items have no run yet
pub record AreMarksSoFar (at : ℕ) (done : List Item) (runs : ParagraphRuns) : Type 0 where
  pub text : List Run
  pub paragraphs : AreParagraphsSoFar at done (record { closed = text; from = runs.from })
  pub closed_are : runs.closed ≡ runs_begun_at runs.start text
  pub open_ends : leaves_open done ≡ true → runs.from < at + 2 * length done
  pub mark_ends : leaves_open done ≡ false → runs.from ≡ at + 2 * length done

-- the runs go on by an item that has this mark, whose unit is before `end`
abbrev pub MarkEnds : Mark → ℕ → ParagraphRuns → ParagraphRuns → Type 0
MarkEnds mark end old new =
    (at : ℕ) (done : List Item) (item : Item) → end ≡ at + 2 * length (done ++ item ∷ []) → item.mark ≡ Some mark →
    AreMarksSoFar at done old → AreMarksSoFar at (done ++ item ∷ []) new

-- the runs go on by so many items with this mark, or without one; the first one has its unit at `begin`
abbrev pub MarksGoOn : Option Mark → ℕ → ℕ → ParagraphRuns → ParagraphRuns → Type 0
MarksGoOn mark count begin old new =
    (at : ℕ) (done text : List Item) (place : ℕ) → begin ≡ at + 2 * (length done + place) →
    HaveAlike (λ item. item.mark) mark text place count →
    AreMarksSoFar at (done ++ take place text) old → AreMarksSoFar at (done ++ take (place + count) text) new

-- the runs go on by a text with these runs of what is beside its units
abbrev pub MarksGoOnBy : List (ValueRun Attached) → ℕ → ParagraphRuns → ParagraphRuns → Type 0
MarksGoOnBy runs begin old new =
    (at : ℕ) (done text : List Item) → begin ≡ at + 2 * length done → expanded runs ≡ map attached_of text →
    AreMarksSoFar at done old → AreMarksSoFar at (done ++ text) new
