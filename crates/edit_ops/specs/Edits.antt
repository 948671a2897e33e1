-- What each command does: its changes, of which there are three at most, and the document after them. All numbers are
-- of the document before the command; the changes of one command concern different parts.
use Rattle.std.specs.Prelude.{ℕ, ◌+◌, Bool, true, false, List, [], ◌∷◌}
use Rattle.std.specs.Prelude.{replicate}
use Rattle.doc_bits.specs.declared.places.Story.{Story}
use Rattle.doc_bits.specs.declared.places.Story.TheVariants.{Main, Note as NoteText, Head as HeadText}
use Rattle.prop_map.specs.declared.modifiers.Modifier.{Modifier}
use Rattle.prop_map.specs.Settings.{Properties}
pub use Rattle.doc_patch.specs.Modifiers.{property_characters, clearing, property_paragraphs, naming_style}
use Rattle.doc_model.specs.declared.item.Item.{Item}
use Rattle.doc_model.specs.declared.document.Document.{Document}
use Rattle.edit_script.specs.declared.commands.Command.{Command}
use Rattle.edit_script.specs.declared.commands.Command.TheVariants.{Insert, Erase, Char, Plain, Para, Style, Field}
use Rattle.edit_script.specs.declared.commands.Command.TheVariants.{Note, Split, Merge, Sect, Row, StyleChar}
use Rattle.edit_script.specs.declared.commands.Command.TheVariants.{StylePara, Bookmark, Unmark, Save}
use Rattle.doc_patch.specs.declared.changes.Change.{Change}
use Rattle.doc_patch.specs.declared.changes.Change.TheVariants.{SpliceText, ModifyItems, SetSection, SpliceNotes}
use Rattle.doc_patch.specs.declared.changes.Change.TheVariants.{SpliceHeads, SetStyleCharacters, SetStyleParagraphs}
use Rattle.doc_patch.specs.declared.changes.Change.TheVariants.{SetBookmarks}
use Rattle.doc_patch.specs.Places.{items_at, mark_place, section_place, note_number, head_number}
use Rattle.edit_ops.specs.Fresh.{base_properties, inserted_items, field_items, note_reference, note_items, split_item}
use Rattle.edit_ops.specs.Fresh.{section_item, row_items}
use Rattle.doc_patch.specs.Changes.{all_changed}
use Rattle.edit_ops.specs.Bookmarks.{new_bookmark, with_bookmark, without_bookmark}

-- items put before a place of a text
abbrev pub insertion : Story → ℕ → List Item → List Change
insertion story at items = SpliceText story at at items ∷ []

-- the items of a range taken away; the notes of references and the header texts of sections go with them
abbrev pub erased : Document → Story → ℕ → ℕ → List Change
erased document Main from to =
    SpliceText Main from to []
    ∷ SpliceNotes (note_number document.main from) (note_number document.main to) []
    ∷ SpliceHeads (head_number document.main from) (head_number document.main to) []
    ∷ []
erased document (NoteText number) from to = SpliceText (NoteText number) from to [] ∷ []
erased document (HeadText number) from to = SpliceText (HeadText number) from to [] ∷ []

-- the modifier on the mark of the paragraph that holds the place
abbrev pub modified_at_mark : Document → Story → ℕ → Modifier → List Change
modified_at_mark document story at modifier =
    ModifyItems story (mark_place (items_at document story) at) (mark_place (items_at document story) at + 1) modifier
    ∷ []

-- the properties of a section changed, or a new section before the place, with six empty header texts
abbrev pub section_changes : List Item → ℕ → Bool → Properties → List Change
section_changes main at false set = SetSection (section_place main at) set ∷ []
section_changes main at true set =
    SpliceText Main at at (section_item main at set ∷ [])
    ∷ SpliceHeads (head_number main at) (head_number main at) (replicate 6 [])
    ∷ []

abbrev pub changes_of : Document → Command → List Change
changes_of document (Insert story at text) = insertion story at (inserted_items (items_at document story) at text)
changes_of document (Erase story from to) = erased document story from to
changes_of document (Char story from to set) = ModifyItems story from to (property_characters set) ∷ []
changes_of document (Plain story from to) = ModifyItems story from to clearing ∷ []
changes_of document (Para story at set) = modified_at_mark document story at (property_paragraphs set)
changes_of document (Style story at istd) = modified_at_mark document story at (naming_style istd)
changes_of document (Field story at type code result) =
    insertion story at (field_items (base_properties (items_at document story) at) type code result)
changes_of document (Note at text) =
    SpliceText Main at at (note_reference (base_properties document.main at) ∷ [])
    ∷ SpliceNotes (note_number document.main at) (note_number document.main at) (note_items text ∷ [])
    ∷ []
changes_of document (Split story at) = insertion story at (split_item (items_at document story) at ∷ [])
changes_of document (Merge story at) =
    erased document story (mark_place (items_at document story) at) (mark_place (items_at document story) at + 1)
changes_of document (Sect at new set) = section_changes document.main at new set
changes_of document (Row story at width cells) = insertion story at (row_items width cells)
changes_of document (StyleChar istd set) = SetStyleCharacters istd set ∷ []
changes_of document (StylePara istd set) = SetStyleParagraphs istd set ∷ []
changes_of document (Bookmark name from to) =
    SetBookmarks (with_bookmark (new_bookmark name from to) document.bookmarks) ∷ []
changes_of document (Unmark name) = SetBookmarks (without_bookmark name document.bookmarks) ∷ []
changes_of document (Save full) = []

-- the document after a command; a save changes nothing
abbrev pub document_after : Document → Command → Document
document_after document command = all_changed (changes_of document command) document
