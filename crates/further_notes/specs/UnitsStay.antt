-- What is where the texts of further stories became notes: each of these texts is a note, at the item that referred to
-- it, and each note that the document had is one. In the main text the items that refer to new notes have the marks of
-- notes; header texts stay.
use Rattle.std.specs.Prelude.{◌≡◌, ◌⊎◌, ℕ, ◌<◌, true, List, length, Some, slice_get, is_some}
use Rattle.std.specs.List.{Contains}
use Rattle.doc_bits.specs.Together.{AreTogether}
use Rattle.doc_model.specs.declared.item.Item.{Item}
use Rattle.doc_model.specs.declared.item.NoteKind.{NoteKind}
use Rattle.doc_model.specs.declared.document.Document.{Document}
use Rattle.doc_mends.specs.declared.mends.MadeNote.{MadeNote}
use Rattle.doc_mends.specs.declared.mends.NoteStory.{NoteStory}
use Rattle.doc_meaning.specs.Meaning.{MeansDocument}
use Rattle.further_notes.specs.declared.stories.NotedStories.{NotedStories}
use Rattle.further_notes.specs.Forms.{as_note_text, story_titles, text_or_empty, unit_noted}
use Rattle.further_notes.specs.NoteFiles.{note_file}
use Rattle.further_notes.specs.Sources.{note_kinds, note_kind_at, notes_before}
use Rattle.further_notes.specs.Noted.{has_story, IsSpliced}

-- an item of a main text refers to the note of this number
pub record RefersTo (main : List Item) (at number : ℕ) : Type 0 where
  pub some : is_some (note_kind_at (note_kinds main) at) ≡ true
  pub before : notes_before (note_kinds main) at ≡ number

-- to a note of this text
abbrev pub HasNoteAt : Document → ℕ → List Item → Type 0
HasNoteAt document at text =
    (number : ℕ) × (RefersTo document.main at number × (slice_get document.notes number ≡ Some text))

-- a note is this text of a further story, behind the initials of a comment, at the item that referred to it
pub record IsStoryText (wd table : List ℕ) (document : Document) (made : MadeNote) : Type 0 where
  pub story : Document
  pub means : MeansDocument (note_file made.story wd table) story
  pub text : List Item
  pub text_is : slice_get story.notes made.number ≡ Some text
  pub at : ℕ
  pub referred : RefersTo story.main at made.number
  pub refers : RefersTo document.main at made.note
  pub note_is :
      slice_get document.notes made.note
      ≡ Some (as_note_text made.story (text_or_empty (story_titles made.story wd table) made.number) text)

-- each text of a story became a note
abbrev pub AreAllMade : (wd table : List ℕ) → List MadeNote → NoteStory → Type 0
AreAllMade wd table made story =
    (other : Document) (number : ℕ) → MeansDocument (note_file story wd table) other → number < length other.notes →
    (note : ℕ) × Contains made (record { story = story; number = number; note = note })

-- an item of the main text stays, or refers to a note now
abbrev pub StaysOrRefers : Item → Item → Type 0
StaysOrRefers before after =
    (after ≡ before)
    ⊎ ((story : NoteStory)
    × ((kind : NoteKind) × (after ≡ record before { unit = unit_noted story before.unit; note = Some kind })))

-- the document in which the texts of stories are notes
pub record HoldsStories (stories : NotedStories) (wd table : List ℕ) (document spliced : Document)
    (made : List MadeNote) : Type 0 where
  pub main : AreTogether StaysOrRefers document.main spliced.main
  pub heads : spliced.heads ≡ document.heads
  pub own :
      (at : ℕ) (text : List Item) → HasNoteAt document at text → HasNoteAt spliced at text
  pub texts : (note : MadeNote) → Contains made note → IsStoryText wd table spliced note
  pub all : (story : NoteStory) → has_story stories story ≡ true → AreAllMade wd table made story

abbrev pub StoriesAreHeld : Type 0
StoriesAreHeld =
    (stories : NotedStories) (wd table : List ℕ) (document spliced : Document) (made : List MadeNote) →
    IsSpliced stories wd table document spliced made → HoldsStories stories wd table document spliced made
