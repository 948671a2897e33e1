-- A text that is gone through once: which runs of it are closed, and from where on the last one goes on.
use Rattle.std.specs.Prelude.{◌≡◌, ◌+◌, ◌-◌, ◌*◌, ℕ, List, [], ◌∷◌, ◌++◌, length, map, take, Option, Some}
use Rattle.std.specs.Prelude.{None, slice_get}
use Rattle.prop_map.specs.Settings.{Properties}
use Rattle.fkp_pages.specs.declared.kind.PageKind.{PageKind}
use Rattle.fkp_pages.specs.declared.kind.PageKind.TheVariants.{Chpx, Papx}
use Rattle.fkp_pages.specs.declared.lists.Run.{Run}
use Rattle.run_lists.specs.declared.runs.Run.{Run as ValueRun}
use Rattle.run_lists.specs.Spread.{expanded}
use Rattle.doc_model.specs.declared.item.Mark.{Mark}
use Rattle.doc_model.specs.declared.item.Item.{Item}
use Rattle.doc_model.specs.declared.document.Document.{Document}
use Rattle.doc_model.specs.Stretches.{stretches, IsJoinedStretch}
use Rattle.doc_columns.specs.declared.attached.Attached.{Attached}
use Rattle.doc_columns.specs.Attached.{attached_of}
use Rattle.full_save.specs.declared.runs.CharacterRuns.{CharacterRuns}
use Rattle.full_save.specs.declared.runs.ParagraphRuns.{ParagraphRuns}
use Rattle.full_save.specs.declared.text.TextSoFar.{TextSoFar}
use Rattle.full_save.specs.declared.text.SavedText.{SavedText}
use Rattle.full_save.specs.Runs.{joins_run, runs_from, text_runs}
use Rattle.full_save.specs.Alike.{HaveAlike}
use Rattle.full_save.specs.Text.{text_items, text_counts}
use Rattle.full_save.specs.WordDocument.{text_offset}

-- closed runs, where the last run begins, and its items
pub record RunsSoFar : Type 0 where
  pub closed : List Run
  pub from : ℕ
  pub part : List Item

-- the runs of a text that begins at a place: whatever items follow, they are the closed ones and those from the last
-- one on
pub record AreRunsSoFar (kind : PageKind) (at : ℕ) (done : List Item) (runs : RunsSoFar) : Type 0 where
  pub joined : IsJoinedStretch (joins_run kind) runs.part
  pub stands : runs.from + 2 * length runs.part ≡ at + 2 * length done
  pub goes_on :
      (more : List Item) →
      runs.closed ++ runs_from kind runs.from (stretches (joins_run kind) (runs.part ++ more))
      ≡ text_runs kind at (done ++ more)

-- the last item of a part, if it has one, is such
abbrev pub EndsWith : (Item → Type 0) → List Item → Type 0
EndsWith IsSuch part = (item : Item) → slice_get part (length part - 1) ≡ Some item → IsSuch item

-- the last run has the properties of its characters
pub record AreCharactersSoFar (at : ℕ) (done : List Item) (runs : CharacterRuns) : Type 0 where
  pub part : List Item
  pub are : AreRunsSoFar Chpx at done (record { closed = runs.closed; from = runs.from; part = part })
  pub last : EndsWith (λ item. item.chp ≡ runs.chp) part

-- no mark ends the last run
pub record AreParagraphsSoFar (at : ℕ) (done : List Item) (runs : ParagraphRuns) : Type 0 where
  pub part : List Item
  pub are : AreRunsSoFar Papx at done (record { closed = runs.closed; from = runs.from; part = part })
  pub last : EndsWith (λ item. item.mark ≡ None) part

-- the runs go on by so many items with these properties, wherever in a text they are; the first one has its unit at
-- `end`
abbrev pub CharactersGoOn : Properties → ℕ → ℕ → CharacterRuns → CharacterRuns → Type 0
CharactersGoOn chp count end old new =
    (at : ℕ) (done text : List Item) (place : ℕ) → end ≡ at + 2 * (length done + place) →
    HaveAlike (λ item. item.chp) chp text place count →
    AreCharactersSoFar at (done ++ take place text) old → AreCharactersSoFar at (done ++ take (place + count) text) new

-- the runs go on by a text with these runs of properties
abbrev pub CharactersGoOnBy : List (ValueRun Properties) → ℕ → CharacterRuns → CharacterRuns → Type 0
CharactersGoOnBy runs start old new =
    (at : ℕ) (done text : List Item) → start ≡ at + 2 * length done → expanded runs ≡ map (λ item. item.chp) text →
    AreCharactersSoFar at done old → AreCharactersSoFar at (done ++ text) new

-- the runs go on by an item that has this mark, whose unit is before `end`
abbrev pub ParagraphEnds : Mark → ℕ → ParagraphRuns → ParagraphRuns → Type 0
ParagraphEnds mark end old new =
    (at : ℕ) (done : List Item) (item : Item) → end ≡ at + 2 * length (done ++ item ∷ []) → item.mark ≡ Some mark →
    AreParagraphsSoFar at done old → AreParagraphsSoFar at (done ++ item ∷ []) new

-- the runs go on by so many items with this mark, or without one; the first one has its unit at `start`
abbrev pub ParagraphsGoOn : Option Mark → ℕ → ℕ → ParagraphRuns → ParagraphRuns → Type 0
ParagraphsGoOn mark count start old new =
    (at : ℕ) (done text : List Item) (place : ℕ) → start ≡ at + 2 * (length done + place) →
    HaveAlike (λ item. item.mark) mark text place count →
    AreParagraphsSoFar at (done ++ take place text) old → AreParagraphsSoFar at (done ++ take (place + count) text) new

-- the runs go on by a text with these runs of what is beside its units
abbrev pub ParagraphsGoOnBy : List (ValueRun Attached) → ℕ → ParagraphRuns → ParagraphRuns → Type 0
ParagraphsGoOnBy runs start old new =
    (at : ℕ) (done text : List Item) → start ≡ at + 2 * length done → expanded runs ≡ map attached_of text →
    AreParagraphsSoFar at done old → AreParagraphsSoFar at (done ++ text) new

-- the number of units and the runs of a text that begins where the text of a document does
pub record IsTextSoFar (done : List Item) (text : TextSoFar) : Type 0 where
  pub long : text.len ≡ length done
  pub characters : AreCharactersSoFar text_offset done text.characters
  pub paragraphs : AreParagraphsSoFar text_offset done text.paragraphs

-- these items are put behind a text
abbrev pub GoesOnBy : List Item → TextSoFar → TextSoFar → Type 0
GoesOnBy items old new = (done : List Item) → IsTextSoFar done old → IsTextSoFar (done ++ items) new

-- how long a text is, its runs, and these counts
pub record IsWholeText (items : List Item) (counts : List ℕ) (text : SavedText) : Type 0 where
  pub long : text.len ≡ length items
  pub characters : text.characters ≡ text_runs Chpx text_offset items
  pub paragraphs : text.paragraphs ≡ text_runs Papx text_offset items
  pub counts_are : text.counts ≡ counts

-- the text of a document
abbrev pub IsSavedTextOf : Document → SavedText → Type 0
IsSavedTextOf document text = IsWholeText (text_items document) (text_counts document) text
