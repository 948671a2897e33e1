-- A document with the texts of some of its further stories as notes.
use Rattle.std.specs.Prelude.{◌≡◌, ℕ, Bool, true, false, List}
use Rattle.doc_model.specs.declared.document.Document.{Document}
use Rattle.doc_mends.specs.declared.mends.MadeNote.{MadeNote}
use Rattle.doc_mends.specs.declared.mends.NoteStory.{NoteStory}
use Rattle.doc_mends.specs.declared.mends.NoteStory.TheVariants as note_story
use Rattle.further_notes.specs.declared.splicing.Spliced.{Spliced}
use Rattle.further_notes.specs.declared.stories.NotedStories.{NotedStories}
use Rattle.further_notes.specs.declared.stories.NotedStories.TheVariants.{Endnotes, Comments, Both}
use Rattle.further_notes.specs.Sources.{made_notes}
use Rattle.further_notes.specs.Splices.{NoteState, first_state, IsStorySplice}

-- whether a story is among them
abbrev pub has_story : NotedStories → NoteStory → Bool
has_story Both story = true
has_story Endnotes note_story.Endnotes = true
has_story Endnotes note_story.Comments = false
has_story Comments note_story.Endnotes = false
has_story Comments note_story.Comments = true

-- one story after the other
pub record AreTwoSteps (wd table : List ℕ) (old new : NoteState) : Type 0 where
  pub middle : NoteState
  pub first : IsStorySplice note_story.Endnotes wd table old middle
  pub second : IsStorySplice note_story.Comments wd table middle new

abbrev pub AreSteps : NotedStories → (wd table : List ℕ) → (old new : NoteState) → Type 0
AreSteps Both wd table old new = AreTwoSteps wd table old new
AreSteps Endnotes wd table old new = IsStorySplice note_story.Endnotes wd table old new
AreSteps Comments wd table old new = IsStorySplice note_story.Comments wd table old new

-- what is spliced is made of this state
pub record IsSplicedFrom (stories : NotedStories) (wd table : List ℕ) (old : NoteState) (spliced : Spliced) : Type 0
  where
    pub last : NoteState
    pub steps : AreSteps stories wd table old last
    pub document_is : spliced.document ≡ last.document
    pub made_are : spliced.made.items ≡ made_notes last.origins

-- the texts of these stories of two streams are notes of the document, and which they are
pub record IsSpliced (stories : NotedStories) (wd table : List ℕ) (document spliced : Document)
    (made : List MadeNote) : Type 0 where
  pub last : NoteState
  pub steps : AreSteps stories wd table (first_state document) last
  pub document_is : spliced ≡ last.document
  pub made_are : made ≡ made_notes last.origins

-- they cannot be
abbrev pub HasNoSplice : NotedStories → (wd table : List ℕ) → Document → Type 0
HasNoSplice stories wd table document =
    (spliced : Document) (made : List MadeNote) → ¬ IsSpliced stories wd table document spliced made

-- they are in one way
abbrev pub SpliceIsOne : Type 0
SpliceIsOne =
    (stories : NotedStories) (wd table : List ℕ) (document one other : Document) (made others : List MadeNote) →
    IsSpliced stories wd table document one made → IsSpliced stories wd table document other others →
    (one ≡ other) × (made ≡ others)
