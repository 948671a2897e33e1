-- The text of a note that was an endnote or a comment: its mark is that of a note, and the initials of its author are in
-- front of a comment.
use Rattle.std.specs.Prelude.{ℕ, ◌+◌, ◌*◌, ◌==◌, min, List, [], ◌∷◌, ◌++◌, length, drop, Option, Some, None, slice_get}
use Rattle.std.specs.Prelude.{if◌then◌else◌}
use Rattle.std.specs.FinMap.{empty}
use Rattle.std.specs.Option.{unwrap_or}
use Rattle.doc_bits.specs.Number.{u16_at}
use Rattle.doc_bits.specs.Plc.{PlcPart, plc_entry}
use Rattle.fib_form.specs.Fib.{table_part}
use Rattle.fib_versions.specs.declared.further.Further.TheVariants as further
use Rattle.doc_parts.specs.Table.{plc_part}
use Rattle.doc_parts.specs.Tabulated.{tabulate}
use Rattle.doc_model.specs.declared.item.Item.{Item}
use Rattle.doc_columns.specs.Columns.{bare_items}
use Rattle.doc_losses.specs.References.{mark_pair, mark_size}
use Rattle.doc_mends.specs.declared.mends.NoteStory.{NoteStory}
use Rattle.doc_mends.specs.declared.mends.NoteStory.TheVariants.{Endnotes, Comments}
use Rattle.further_notes.specs.declared.forms.NoteForm.{NoteForm}

-- ---- marks

-- [MS-DOC] the character of a note's number, in the main text and in front of its text
abbrev pub note_mark : ℕ
note_mark = 0x02

-- that of the story
abbrev pub story_mark : NoteStory → ℕ
story_mark Endnotes = 0x02
story_mark Comments = 0x05

abbrev pub unit_noted : NoteStory → ℕ → ℕ
unit_noted story unit = if unit == story_mark story then note_mark else unit

-- ---- titles

-- [MS-DOC] ATRDPre10, xstUsrInitl: how many characters the initials have, and up to nine of them
abbrev pub initials : List ℕ → List ℕ
initials entry = tabulate (λ k. u16_at entry (2 + 2 * k)) (min (u16_at entry 0) 9)

-- they are in brackets, and a space is behind them, where there are some
abbrev pub bracketed_units : List ℕ → List ℕ
bracketed_units [] = []
bracketed_units (unit ∷ units) = 0x5B ∷ ((unit ∷ units) ++ 0x5D ∷ 0x20 ∷ [])

abbrev pub initials_items : List ℕ → List Item
initials_items entry = bare_items empty (bracketed_units (initials entry))

-- those of the comments of PlcfandRef, in their order
abbrev pub comment_titles : PlcPart → List (List Item)
comment_titles plc = tabulate (λ k. initials_items (plc_entry plc k)) plc.count

-- endnotes have none
abbrev pub story_titles : NoteStory → (wd table : List ℕ) → List (List Item)
story_titles Endnotes wd table = []
story_titles Comments wd table =
    comment_titles (plc_part (mark_size further.Comments) (table_part wd table (mark_pair further.Comments)))

-- ---- texts

-- the texts of a story, and what is put in front of each
abbrev pub note_form_of : NoteStory → (wd table : List ℕ) → NoteForm
note_form_of story wd table = record { story = story; titles = story_titles story wd table }

-- the text of this number; there is none where these are fewer
abbrev pub text_or_empty : List (List Item) → ℕ → List Item
text_or_empty texts number = unwrap_or (slice_get texts number) []

-- the mark that a text begins with, as that of a note
abbrev pub marks_by : NoteStory → Option Item → List Item
marks_by story None = []
marks_by story (Some item) =
    if item.unit == story_mark story then (record item { unit = note_mark }) ∷ [] else []

abbrev pub own_marks : NoteStory → List Item → List Item
own_marks story text = marks_by story (slice_get text 0)

-- a text as that of a note: the title is behind its mark
abbrev pub as_note_text : NoteStory → List Item → List Item → List Item
as_note_text story title text = own_marks story text ++ (title ++ drop (length (own_marks story text)) text)
