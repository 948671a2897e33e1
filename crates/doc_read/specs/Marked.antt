-- The field bytes and the kinds of notes, by the CPs of the whole text.
use Rattle.std.specs.Prelude.{ℕ, ◌+◌, Bool, List, ◌++◌, map, if◌then◌else◌}
use Rattle.doc_parts.specs.declared.lists.Fld.{Fld}
use Rattle.doc_parts.specs.declared.lists.NoteRef.{NoteRef}
use Rattle.doc_model.specs.declared.item.NoteKind.{NoteKind}
use Rattle.doc_model.specs.declared.item.NoteKind.TheVariants.{Auto, Custom}
use Rattle.fib_form.specs.declared.stories.StoryKind.TheVariants.{Main, Notes, Heads}
use Rattle.file_rules.specs.Source.{DocSource, story_begin}
use Rattle.file_rules.specs.PartRules.{PartLists}

-- the field bytes of a story that begins at this CP
abbrev pub story_bytes : ℕ → List Fld → List (ℕ × ℕ)
story_bytes begin fields = map (λ fld. (begin + fld.cp, fld.byte)) fields

-- those of all stories
abbrev pub field_mark_bytes : DocSource → PartLists → List (ℕ × ℕ)
field_mark_bytes source lists =
    story_bytes (story_begin source Main) lists.main_fields ++
    (story_bytes (story_begin source Notes) lists.note_fields
    ++ story_bytes (story_begin source Heads) lists.head_fields)

-- how a note is numbered
abbrev pub note_kind : Bool → NoteKind
note_kind auto = if auto then Auto else Custom

-- the kinds of the notes that the main text refers to
abbrev pub note_kind_entries : List NoteRef → List (ℕ × NoteKind)
note_kind_entries refs = map (λ ref. (ref.cp, note_kind ref.auto)) refs
