-- A document with its endnotes or its comments as notes: the items that refer to them refer to notes, and their texts
-- are among the notes, in the order of the references. No item is added to the main text.
use Rattle.std.specs.Prelude.{◌≡◌, ℕ, ◌<◌, ◌≤◌, ◌&&◌, false, List, [], ◌∷◌, length, Option, Some, None, is_some}
use Rattle.doc_bits.specs.Number.{AreBytes}
use Rattle.doc_bits.specs.Rules.{Hold}
use Rattle.doc_model.specs.declared.item.Item.{Item}
use Rattle.doc_model.specs.declared.item.NoteKind.{NoteKind}
use Rattle.doc_model.specs.declared.document.Document.{Document}
use Rattle.doc_columns.specs.declared.attached.Attached.{Attached}
use Rattle.doc_mends.specs.declared.mends.NoteStory.{NoteStory}
use Rattle.doc_meaning.specs.Meaning.{MeansDocument}
use Rattle.doc_lift.specs.LiftedFiles.{lifted_rules}
use Rattle.further_notes.specs.declared.origins.NoteOrigin.{NoteOrigin}
use Rattle.further_notes.specs.declared.sources.NoteSource.{NoteSource}
use Rattle.further_notes.specs.declared.splicing.NotedDocument.{NotedDocument}
use Rattle.further_notes.specs.declared.forms.NoteForm.{NoteForm}
use Rattle.further_notes.specs.Forms.{note_form_of, unit_noted}
use Rattle.further_notes.specs.NoteFiles.{HasNoteFile, note_file}
use Rattle.further_notes.specs.Sources.{note_kinds, note_kind_at, notes_before, note_sources, note_texts, note_origins}

-- ---- the main text

-- a unit of which the item refers to a note of this kind, where there is one
abbrev pub unit_with : NoteStory → Option NoteKind → ℕ → ℕ
unit_with story None unit = unit
unit_with story (Some kind) unit = unit_noted story unit

-- what is beside it
abbrev pub attached_noted : Option NoteKind → Attached → Attached
attached_noted None attached = attached
attached_noted (Some kind) attached = record attached { note = Some kind }

-- the item
abbrev pub item_noted : NoteStory → Option NoteKind → Item → Item
item_noted story None item = item
item_noted story (Some kind) item = record item { unit = unit_noted story item.unit; note = Some kind }

-- entries changed by the kinds at their places
unfoldable pub with_kinds : {A : Type 0} → (Option NoteKind → A → A) → List (Option NoteKind) → List A → List A
with_kinds change kinds [] = []
with_kinds change [] (entry ∷ entries) = entry ∷ entries
with_kinds change (kind ∷ kinds) (entry ∷ entries) = change kind entry ∷ with_kinds change kinds entries

abbrev pub text_noted : NoteStory → List (Option NoteKind) → List Item → List Item
text_noted story kinds text = with_kinds (item_noted story) kinds text

-- ---- one story

-- each reference of the other document is in the main text, at an item that refers to no note, and there is one
pub record HasReferences (own others : List (Option NoteKind)) (count : ℕ) : Type 0 where
  pub some : 1 ≤ count
  pub within : notes_before others (length own) ≡ count
  pub apart : (at : ℕ) → at < length own → (is_some (note_kind_at own at) && is_some (note_kind_at others at)) ≡ false

abbrev pub CanSpliceNotes : Document → Document → Type 0
CanSpliceNotes document other = HasReferences (note_kinds document.main) (note_kinds other.main) (length other.notes)

-- a document, and which of its notes are of further stories
pub record NoteState : Type 0 where
  pub document : Document
  pub origins : List (Option NoteOrigin)

abbrev pub note_state_of : NotedDocument → NoteState
note_state_of noted = record { document = noted.document; origins = noted.origins.items }

-- none is
abbrev pub first_state : Document → NoteState
first_state document = record { document = document; origins = [] }

-- where the notes come from
abbrev pub sources_of : Document → Document → List NoteSource
sources_of document other = note_sources (note_kinds document.main) (note_kinds other.main)

-- the document with the notes of another one, at the items of the same places
abbrev pub document_with : NoteForm → Document → Document → Document
document_with form document other = record document {
  main = text_noted form.story (note_kinds other.main) document.main;
  notes = note_texts form document.notes other.notes (sources_of document other);
}

abbrev pub with_notes : NoteForm → NoteState → Document → NoteState
with_notes form old other = record {
  document = document_with form old.document other;
  origins = note_origins form.story old.origins (sources_of old.document other);
}

pub record IsSplice (form : NoteForm) (old : NoteState) (other : Document) (new : NoteState) : Type 0 where
  pub can : CanSpliceNotes old.document other
  pub is : new ≡ with_notes form old other

-- so of the notes of a file that breaks none of the rules 1 to 57 that are left
pub record IsSplicedBy (file : List ℕ) (form : NoteForm) (old new : NoteState) : Type 0 where
  pub bytes : AreBytes file
  pub rules : Hold (lifted_rules file)
  pub other : Document
  pub means : MeansDocument file other
  pub splice : IsSplice form old other new

-- the texts of a story of two streams become notes
pub record IsStorySplice (story : NoteStory) (wd table : List ℕ) (old new : NoteState) : Type 0 where
  pub has : HasNoteFile story wd table
  pub by : IsSplicedBy (note_file story wd table) (note_form_of story wd table) old new

-- they cannot
abbrev pub HasNoSpliceBy : (file : List ℕ) → NoteForm → NoteState → Type 0
HasNoSpliceBy file form old = (new : NoteState) → ¬ IsSplicedBy file form old new

abbrev pub HasNoStep : NoteStory → (wd table : List ℕ) → NoteState → Type 0
HasNoStep story wd table old = (new : NoteState) → ¬ IsStorySplice story wd table old new
