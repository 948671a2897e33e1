-- The notes of a page of text: behind an empty line, each whose reference is shown, behind its label.
use Rattle.std.specs.Prelude.{ℕ, Bool, false, ◌||◌, List, [], ◌∷◌, ◌++◌, Option, Some, None, if◌then◌else◌}
use Rattle.std.specs.Fmt.{decimal}
use Rattle.doc_model.specs.declared.item.Item.{Item}
use Rattle.doc_view.specs.declared.references.Reference.{Reference}
use Rattle.doc_view.specs.declared.reading.Manner.{Manner}
use Rattle.doc_view.specs.Seen.{Formats, paragraphs_of}
use Rattle.doc_view.specs.Layout.{layout_of, some_here}

-- the label of a note: its number, where its reference is numbered
abbrev pub note_label : Option ℕ → List ℕ
note_label None = []
note_label (Some number) = 91 ∷ [] ++ (decimal number ++ 93 ∷ 32 ∷ [])

-- what is before a note: an empty line before the first one
abbrev pub note_lead : Bool → Option ℕ → List ℕ
note_lead begun number = (if begun then [] else 10 ∷ []) ++ note_label number

abbrev pub note_text : Formats → Manner → Bool → Option ℕ → List Item → List ℕ
note_text formats manner begun number note = layout_of (note_lead begun number) (paragraphs_of formats manner note)

-- whether a note has something that is here
abbrev pub has_lines : Formats → Manner → Reference → List Item → Bool
has_lines formats manner reference note = if reference.is_shown then some_here (paragraphs_of formats manner note) else false

-- the notes of references, where some note before them has lines or none
unfoldable pub notes_from : Formats → Manner → Bool → List Reference → List (List Item) → List ℕ
notes_from formats manner begun [] notes = []
notes_from formats manner begun (reference ∷ references) [] = []
notes_from formats manner begun (reference ∷ references) (note ∷ notes) =
    (if reference.is_shown then note_text formats manner begun reference.number note else [])
    ++ notes_from formats manner (begun || has_lines formats manner reference note) references notes
