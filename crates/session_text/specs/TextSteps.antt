-- The step of a session's text that a change of the document is: slots in place of a range of CPs.
use Rattle.std.specs.Prelude.{◌≡◌, ◌⊎◌, ℕ, ◌+◌, ◌<◌, ◌≤◌, List, [], ◌∷◌, length, map, Bool, true, false}
use Rattle.std.specs.Prelude.{slice_get}
use Rattle.std.specs.Prelude.{MatchOption, ⊤}
use Rattle.doc_bits.specs.declared.places.Story.{Story}
use Rattle.doc_bits.specs.declared.places.Story.TheVariants.{Main, Note, Head}
use Rattle.doc_bits.specs.Together.{AreTogether}
use Rattle.doc_model.specs.declared.item.Item.{Item}
use Rattle.doc_model.specs.declared.document.Document.{Document}
use Rattle.doc_model.specs.Collected.{joined_texts}
use Rattle.doc_patch.specs.declared.changes.Change.{Change}
use Rattle.doc_patch.specs.declared.changes.Change.TheVariants.{SpliceText, ModifyItems, SetSection, SpliceNotes}
use Rattle.doc_patch.specs.declared.changes.Change.TheVariants.{SpliceHeads, SetStyleCharacters, SetStyleParagraphs}
use Rattle.doc_patch.specs.declared.changes.Change.TheVariants.{SetBookmarks}
use Rattle.edit_ops.specs.Ranges.{HasText}
use Rattle.piece_table.specs.Piece.{UnitPlace}
use Rattle.save_laws.specs.Places.{PagedStream}
use Rattle.save_laws.specs.Plans.{Plan}
use Rattle.save_laws.specs.Sessions.{StandInSession}
use Rattle.save_laws.specs.Slots.{Slot, StoryEnds, document_slots}
use Rattle.save_laws.specs.ByRuns.{slot_end}
use Rattle.save_laws.specs.Ends.{ends_of}
use Rattle.save_laws.specs.declared.ends.Ends.{Ends}
use Rattle.session_text.specs.declared.stories.Stories.{Stories}
use Rattle.session_text.specs.declared.stories.StoryPlace.{StoryPlace}
use Rattle.session_text.specs.declared.stories.StoryCut.{StoryCut}
use Rattle.session_text.specs.declared.steps.TextStep.{TextStep}
use Rattle.session_text.specs.StoryMarks.{end_after, marks_come, marks_go, IsSplicedWhole}
use Rattle.session_text.specs.AddedText.{IsAddedFor, marked_block}

-- ---- stories

-- the items of a document's stories are as many
pub record AreStories (document : Document) (stories : Stories) : Type 0 where
  pub main : stories.main ≡ length document.main
  pub notes : stories.notes ≡ length (joined_texts document.notes)
  pub heads : stories.heads ≡ length (joined_texts document.heads)

-- whether a list has entries
abbrev pub has_any : {A : Type 0} → List A → Bool
has_any [] = false
has_any (x ∷ xs) = true

-- the place is that of a story of these items, beside a story with these slots
pub record IsStoryPlace (place : StoryPlace) (items : List Item) (other : List Slot) : Type 0 where
  pub count : place.items ≡ length items
  pub others : place.others ≡ has_any other

-- how many marks come, and go, by whether there are items before and after, a mark, and slots of the other story
abbrev pub coming : Bool → Bool → Bool → Bool → ℕ
coming true after end others = 0
coming false false end others = 0
coming false true true others = 0
coming false true false true = 1
coming false true false false = 2

abbrev pub going : Bool → Bool → Bool → Bool → ℕ
going false after end others = 0
going true true end others = 0
going true false false true = 0
going true false false false = 1
going true false true true = 1
going true false true false = 2

abbrev pub ending : Bool → Bool → Bool → Bool
ending false false end = end
ending false true end = true
ending true false end = false
ending true true end = end

-- a range of a story's items as one of the whole text, where the items become others
pub record IsStoryCut
    (place : StoryPlace) (items new : List Item) (other : List Slot) (from to : ℕ) (cut : StoryCut) : Type 0 where
  pub from_is : cut.from ≡ place.begin + from
  pub to_is : cut.to ≡ place.begin + (to + marks_go place.end items new other)
  pub marks : cut.marks ≡ length (marks_come place.end items new other)
  pub end_is : cut.end ≡ end_after place.end items new

-- ---- ranges

-- a range of a text's items
pub record IsRangeOf (from to : ℕ) (text : List Item) : Type 0 where
  pub order : from ≤ to
  pub within : to ≤ length text

abbrev pub HasRangeOf : Document → Story → ℕ → ℕ → Type 0
HasRangeOf document story from to = HasText document story (IsRangeOf from to)

-- the story has as many items as the texts, of which this is a range
pub record IsCountedRange (count : ℕ) (texts : List (List Item)) (from to : ℕ) : Type 0 where
  pub many : count ≡ length (joined_texts texts)
  pub order : from ≤ to
  pub within : to ≤ length texts

-- and so it has, and one of the texts has this range
pub record HasCountedRange (count : ℕ) (texts : List (List Item)) (number from to : ℕ) : Type 0 where
  pub many : count ≡ length (joined_texts texts)
  pub range : MatchOption (slice_get texts number) ⊥ (IsRangeOf from to)

-- the texts that a change names have its range, and the stories have as many items as these texts
abbrev pub CanStep : Document → Stories → Change → Type 0
CanStep document stories (SpliceText Main from to fresh) =
    (stories.main ≡ length document.main) × IsRangeOf from to document.main
CanStep document stories (SpliceText (Note number) from to fresh) =
    HasCountedRange stories.notes document.notes number from to
CanStep document stories (SpliceText (Head number) from to fresh) =
    HasCountedRange stories.heads document.heads number from to
CanStep document stories (ModifyItems story from to by) = ⊥
CanStep document stories (SetSection at set) = ⊤
CanStep document stories (SpliceNotes from to fresh) = IsCountedRange stories.notes document.notes from to
CanStep document stories (SpliceHeads from to fresh) = IsCountedRange stories.heads document.heads from to
CanStep document stories (SetStyleCharacters istd set) = ⊤
CanStep document stories (SetStyleParagraphs istd set) = ⊤
CanStep document stories (SetBookmarks list) = ⊤

-- ---- the step

-- places that represent the whole text of the one document represent that of the other, whose whole text is as long
pub record StandAlike (one other : Document) (ends : StoryEnds) : Type 0 where
  pub len : length (document_slots other ends) ≡ length (document_slots one ends)
  pub marks : map slot_end (document_slots other ends) ≡ map slot_end (document_slots one ends)
  pub stand :
      (old : PagedStream) (plan : Plan) (places : List UnitPlace) →
      StandInSession old plan places (document_slots one ends) → StandInSession old plan places (document_slots other
      ends)

-- slots in place of a range make a whole text, and what represents it represents that of the changed document
pub record IsSplicedText
    (document : Document) (ends : StoryEnds) (changed : Document) (after : StoryEnds) (from to : ℕ)
    (slots : List Slot) : Type 0 where
  pub made : Document
  pub whole : IsSplicedWhole document ends made after from to slots
  pub alike : StandAlike made changed after

-- a story gets its first items
abbrev pub HasNewStory : Document → Document → Type 0
HasNewStory document changed =
    ((joined_texts document.notes ≡ []) × (0 < length (joined_texts changed.notes)))
    ⊎ ((joined_texts document.heads ≡ []) × (0 < length (joined_texts changed.heads)))

-- the step puts a block in place of a range, and so makes the whole text of the changed document; marks come with the
-- first items of a story
pub record IsTextStep (document changed : Document) (ends : Ends) (step : TextStep) : Type 0 where
  pub slots : List Slot
  pub whole : IsSplicedText document (ends_of ends) changed (ends_of step.after.ends) step.from step.to slots
  pub block : AreTogether IsAddedFor (marked_block step.items step.marks) slots
  pub few : step.marks ≤ 2
  pub first : 0 < step.marks → 0 < length step.items
  pub empty : 0 < step.marks → HasNewStory document changed
  pub stories : AreStories changed step.after
