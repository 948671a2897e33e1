-- Endnotes and comments become notes in one way, and bookmarks stay formed.
use Rattle.std.proofs.Common.{◌≡◌, ◌∙◌, ◌≤◌, true, ap, sym, subst, ℕ, List, length, Option, Some, None}
use Rattle.std.specs.Prelude.{MatchOption}
use Rattle.doc_bits.specs.Number.{AreBytes}
use Rattle.fib_versions.specs.Versions.{further_count}
use Rattle.doc_model.specs.declared.document.Document.{Document}
use Rattle.doc_model.specs.Marks.{HasFormedBookmarks}
use Rattle.document_bookmarks.specs.Bookmarks.{AreFormedBookmarks}
use Rattle.doc_mends.specs.declared.mends.MadeNote.{MadeNote}
use Rattle.doc_mends.specs.declared.mends.NoteStory.{NoteStory}
use Rattle.doc_mends.specs.declared.mends.NoteStory.TheVariants as note_story
use Rattle.doc_lift.specs.declared.lifting.Lifted.{Lifted}
use Rattle.doc_lift.specs.LiftedFiles.{IsLifted}
use Rattle.further_notes.specs.declared.splicing.NotedDocument.{NotedDocument}
use Rattle.further_notes.specs.declared.splicing.Spliced.{Spliced}
use Rattle.further_notes.specs.declared.stories.NotedStories.{NotedStories}
use Rattle.further_notes.specs.declared.stories.NotedStories.TheVariants.{Both, Endnotes, Comments}
use Rattle.further_notes.specs.declared.forms.NoteForm.{NoteForm}
use Rattle.further_notes.specs.Forms.{note_form_of}
use Rattle.further_notes.specs.NoteFiles.{HasNoteFile, note_file, story_behind}
use Rattle.further_notes.specs.Sources.{note_kinds, made_notes}
use Rattle.further_notes.specs.Splices.{item_noted, with_notes, document_with, note_state_of, first_state, NoteState}
use Rattle.further_notes.specs.Splices.{CanSpliceNotes, IsSplice, IsSplicedBy, IsStorySplice, HasNoSpliceBy, HasNoStep}
use Rattle.further_notes.specs.Noted.{AreSteps, AreTwoSteps, IsSplicedFrom, IsSpliced, HasNoSplice, SpliceIsOne}
use Rattle.further_notes.specs.Noted.{has_story}
use Rattle.further_notes.proofs.MeantLemmas.{meant_one}
use Rattle.further_notes.proofs.KindLemmas.{length-with_kinds}

-- ---- one way

spliced_one : (file : List ℕ) (form : NoteForm) (old one two : NoteState) → IsSplicedBy file form old one →
    IsSplicedBy file form old two → one ≡ two
spliced_one file form old one two a b =
    a.splice.is
    ∙ (ap (with_notes form old) (meant_one file a.other b.other a.bytes a.rules a.means b.means)
    ∙ sym b.splice.is)

step_one : (story : NoteStory) (wd table : List ℕ) (old one two : NoteState) → IsStorySplice story wd table old one →
    IsStorySplice story wd table old two → one ≡ two
step_one story wd table old one two a b =
    spliced_one (note_file story wd table) (note_form_of story wd table) old one two a.by b.by

steps_one : (stories : NotedStories) (wd table : List ℕ) (old one two : NoteState) →
    AreSteps stories wd table old one → AreSteps stories wd table old two → one ≡ two
steps_one Both wd table old one two a b =
    let middle : a.middle ≡ b.middle = step_one note_story.Endnotes wd table old a.middle b.middle a.first b.first in
    step_one note_story.Comments wd table b.middle one two
    (subst (λ (m : NoteState). IsStorySplice note_story.Comments wd table m one) middle a.second) b.second
steps_one Endnotes wd table old one two a b = step_one note_story.Endnotes wd table old one two a b
steps_one Comments wd table old one two a b = step_one note_story.Comments wd table old one two a b

pub splice_is_one : SpliceIsOne
splice_is_one stories wd table document one two made others a b =
    let last : a.last ≡ b.last = steps_one stories wd table (first_state document) a.last b.last a.steps b.steps in (
      a.document_is ∙ (ap (λ (s : NoteState). s.document) last ∙ sym b.document_is),
      a.made_are ∙ (ap (λ (s : NoteState). made_notes s.origins) last ∙ sym b.made_are),
    )

-- ---- bookmarks

-- the main text is as long as it was
step_formed : (story : NoteStory) (wd table : List ℕ) (old new : NoteState) → IsStorySplice story wd table old new →
    HasFormedBookmarks old.document → HasFormedBookmarks new.document
step_formed story wd table old new is formed =
    let document = old.document in
    let other = is.by.other in
    let form = note_form_of story wd table in
    let same : length (document_with form document other).main ≡ length document.main =
    length-with_kinds (item_noted story) (note_kinds other.main) document.main in
    subst (λ (s : NoteState). HasFormedBookmarks s.document) (sym is.by.splice.is)
    (subst (λ (n : ℕ). AreFormedBookmarks n document.bookmarks) (sym same) formed)

steps_formed : (stories : NotedStories) (wd table : List ℕ) (old new : NoteState) →
    AreSteps stories wd table old new → HasFormedBookmarks old.document → HasFormedBookmarks new.document
steps_formed Both wd table old new are formed =
    step_formed note_story.Comments wd table are.middle new are.second
    (step_formed note_story.Endnotes wd table old are.middle are.first formed)
steps_formed Endnotes wd table old new is formed = step_formed note_story.Endnotes wd table old new is formed
steps_formed Comments wd table old new is formed = step_formed note_story.Comments wd table old new is formed

pub splice_formed : (stories : NotedStories) (wd table : List ℕ) (document spliced : Document)
    (made : List MadeNote) → IsSpliced stories wd table document spliced made → HasFormedBookmarks document →
    HasFormedBookmarks spliced
splice_formed stories wd table document spliced made is formed =
    subst HasFormedBookmarks (sym is.document_is)
    (steps_formed stories wd table (first_state document) is.last is.steps formed)

-- ---- the stories have something

steps_some : (stories : NotedStories) (wd table : List ℕ) (old new : NoteState) → AreSteps stories wd table old new →
    (story : NoteStory) → has_story stories story ≡ true → 1 ≤ further_count wd (story_behind story)
steps_some Both wd table old new are note_story.Endnotes among = are.first.has.some
steps_some Both wd table old new are note_story.Comments among = are.second.has.some
steps_some Endnotes wd table old new is note_story.Endnotes among = is.has.some
steps_some Endnotes wd table old new is note_story.Comments among = absurd (cc among)
steps_some Comments wd table old new is note_story.Endnotes among = absurd (cc among)
steps_some Comments wd table old new is note_story.Comments among = is.has.some

pub has_some : (stories : NotedStories) (wd table : List ℕ) (document spliced : Document) (made : List MadeNote) →
    IsSpliced stories wd table document spliced made → (story : NoteStory) → has_story stories story ≡ true →
    1 ≤ further_count wd (story_behind story)
has_some stories wd table document spliced made is story among =
    steps_some stories wd table (first_state document) is.last is.steps story among

-- ---- where they can be

pub splice_found : (file : List ℕ) (form : NoteForm) (old : NoteState) (lifted : Lifted)
    (found : Option NotedDocument) → AreBytes file → IsLifted file lifted →
    MatchOption found (¬ CanSpliceNotes old.document lifted.document)
    (λ new. IsSplice form old lifted.document (note_state_of new)) →
    MatchOption found (HasNoSpliceBy file form old) (λ new. IsSplicedBy file form old (note_state_of new))
splice_found file form old lifted None bytes is never = λ new by.
    never (subst (λ (d : Document). CanSpliceNotes old.document d)
    (meant_one file by.other lifted.document bytes is.rules by.means is.means) by.splice.can)
splice_found file form old lifted (Some new) bytes is splice = record {
  bytes = bytes;
  rules = is.rules;
  other = lifted.document;
  means = is.means;
  splice = splice;
}

pub step_found : (story : NoteStory) (wd table file : List ℕ) (form : NoteForm) (old : NoteState)
    (found : Option NotedDocument) → HasNoteFile story wd table → file ≡ note_file story wd table →
    form ≡ note_form_of story wd table →
    MatchOption found (HasNoSpliceBy file form old) (λ new. IsSplicedBy file form old (note_state_of new)) →
    MatchOption found (HasNoStep story wd table old) (λ new. IsStorySplice story wd table old (note_state_of new))
step_found story wd table file form old None has is form_is never = λ new step.
    never new (subst (λ (f : List ℕ). IsSplicedBy f form old new) (sym is)
    (subst (λ (f : NoteForm). IsSplicedBy (note_file story wd table) f old new) (sym form_is) step.by))
step_found story wd table file form old (Some new) has is form_is by = record {
  has = has;
  by = subst (λ (f : NoteForm). IsSplicedBy (note_file story wd table) f old (note_state_of new)) form_is
      (subst (λ (f : List ℕ). IsSplicedBy f form old (note_state_of new)) is by);
}

-- a second story, behind the first one
pub second_found : (wd table : List ℕ) (old middle : NoteState) (found : Option NotedDocument) →
    IsStorySplice note_story.Endnotes wd table old middle →
    MatchOption found (HasNoStep note_story.Comments wd table middle)
    (λ new. IsStorySplice note_story.Comments wd table middle (note_state_of new)) →
    MatchOption found ((new : NoteState) → ¬ AreTwoSteps wd table old new)
    (λ new. AreTwoSteps wd table old (note_state_of new))
second_found wd table old middle None first never = λ new two.
    never new (subst (λ (m : NoteState). IsStorySplice note_story.Comments wd table m new)
    (step_one note_story.Endnotes wd table old two.middle middle two.first first) two.second)
second_found wd table old middle (Some new) first second =
    record { middle = middle; first = first; second = second }

-- all of them, or not
pub all_found : (stories : NotedStories) (wd table : List ℕ) (document : Document) (old : NoteState)
    (found : Option Spliced) → old ≡ first_state document →
    MatchOption found ((new : NoteState) → ¬ AreSteps stories wd table old new)
    (λ spliced. IsSplicedFrom stories wd table old spliced) →
    MatchOption found (HasNoSplice stories wd table document)
    (λ spliced. IsSpliced stories wd table document spliced.document spliced.made.items)
all_found stories wd table document old None is never = λ spliced made by.
    never by.last (subst (λ (s : NoteState). AreSteps stories wd table s by.last) (sym is) by.steps)
all_found stories wd table document old (Some spliced) is from = record {
  last = from.last;
  steps = subst (λ (s : NoteState). AreSteps stories wd table s from.last) is from.steps;
  document_is = from.document_is;
  made_are = from.made_are;
}
