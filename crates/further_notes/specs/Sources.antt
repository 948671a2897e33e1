-- Where the notes of a document come from: in the order of their references, each is its own or one of another document
-- by its number.
use Rattle.std.specs.Prelude.{ℕ, List, [], length, map, take, Option, Some, None, slice_get, is_some, option_map}
use Rattle.std.specs.Option.{unwrap_or}
use Rattle.std.specs.List.{count_by, filter_map}
use Rattle.doc_parts.specs.Tabulated.{tabulate}
use Rattle.doc_model.specs.declared.item.Item.{Item}
use Rattle.doc_model.specs.declared.item.NoteKind.{NoteKind}
use Rattle.doc_mends.specs.declared.mends.MadeNote.{MadeNote}
use Rattle.doc_mends.specs.declared.mends.NoteStory.{NoteStory}
use Rattle.further_notes.specs.declared.sources.NoteSource.{NoteSource}
use Rattle.further_notes.specs.declared.sources.NoteSource.TheVariants.{Own, Other}
use Rattle.further_notes.specs.declared.origins.NoteOrigin.{NoteOrigin}
use Rattle.further_notes.specs.declared.forms.NoteForm.{NoteForm}
use Rattle.further_notes.specs.Forms.{as_note_text, text_or_empty}

-- what note each item of a text refers to
abbrev pub note_kinds : List Item → List (Option NoteKind)
note_kinds text = map (λ item. item.note) text

-- that of one item; behind the text there is none
abbrev pub note_kind_at : List (Option NoteKind) → ℕ → Option NoteKind
note_kind_at kinds at = unwrap_or (slice_get kinds at) None

-- how many references are before an item
abbrev pub notes_before : List (Option NoteKind) → ℕ → ℕ
notes_before kinds at = count_by is_some (take at kinds)

-- what an item refers to, by its own note and by that of the other document, and how many of each are before it
abbrev pub source_by : Option NoteKind → Option NoteKind → (own others : ℕ) → Option NoteSource
source_by (Some kind) other own others = Some (Own own)
source_by None (Some kind) own others = Some (Other others)
source_by None None own others = None

abbrev pub source_at : List (Option NoteKind) → List (Option NoteKind) → ℕ → Option NoteSource
source_at own others at =
    source_by (note_kind_at own at) (note_kind_at others at) (notes_before own at) (notes_before others at)

-- the references of a text, by the kinds of its own notes and of the others
abbrev pub note_sources : List (Option NoteKind) → List (Option NoteKind) → List NoteSource
note_sources own others = filter_map (λ source. source) (tabulate (source_at own others) (length own))

-- the text of a note
abbrev pub source_text : NoteForm → List (List Item) → List (List Item) → NoteSource → List Item
source_text form own others (Own number) = text_or_empty own number
source_text form own others (Other number) = as_note_text form.story (text_or_empty form.titles number) (text_or_empty
    others number)

abbrev pub note_texts : NoteForm → List (List Item) → List (List Item) → List NoteSource → List (List Item)
note_texts form own others sources = map (source_text form own others) sources

-- ---- which stories they are of

-- that of a note; a note of the file has none
abbrev pub origin_at : List (Option NoteOrigin) → ℕ → Option NoteOrigin
origin_at origins note = unwrap_or (slice_get origins note) None

abbrev pub origin_by : NoteStory → List (Option NoteOrigin) → NoteSource → Option NoteOrigin
origin_by story origins (Own number) = origin_at origins number
origin_by story origins (Other number) = Some (record { story = story; number = number })

abbrev pub note_origins : NoteStory → List (Option NoteOrigin) → List NoteSource → List (Option NoteOrigin)
note_origins story origins sources = map (origin_by story origins) sources

-- a text of a further story that became this note
abbrev pub made_by : ℕ → NoteOrigin → MadeNote
made_by note origin = record { story = origin.story; number = origin.number; note = note }

abbrev pub made_at : List (Option NoteOrigin) → ℕ → Option MadeNote
made_at origins note = option_map (made_by note) (origin_at origins note)

-- the texts that became notes
abbrev pub made_notes : List (Option NoteOrigin) → List MadeNote
made_notes origins = filter_map (λ made. made) (tabulate (made_at origins) (length origins))
