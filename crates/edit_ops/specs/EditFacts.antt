-- What an edit does, as guards are told.
use Rattle.std.specs.Prelude.{ℕ, ◌-◌, List, Option, Some, None, length, slice_range}
use Rattle.std.specs.List.{sum_by}
use Rattle.edit_guards.specs.declared.facts.Facts.{Facts}
use Rattle.doc_model.specs.declared.item.Item.{Item}
use Rattle.doc_model.specs.declared.item.Mark.{Mark}
use Rattle.doc_model.specs.declared.document.Document.{Document}
use Rattle.edit_script.specs.declared.commands.Command.{Command}
use Rattle.edit_script.specs.declared.commands.Command.TheVariants.{Insert, Erase, Char, Plain, Para, Style, Field}
use Rattle.edit_script.specs.declared.commands.Command.TheVariants.{Note, Split, Merge, Sect, Row, StyleChar}
use Rattle.edit_script.specs.declared.commands.Command.TheVariants.{StylePara, Bookmark, Unmark, Save}
use Rattle.doc_patch.specs.declared.changes.Change.{Change}
use Rattle.doc_patch.specs.declared.changes.Change.TheVariants.{SpliceText, ModifyItems, SetSection, SpliceNotes}
use Rattle.doc_patch.specs.declared.changes.Change.TheVariants.{SpliceHeads, SetStyleCharacters, SetStyleParagraphs}
use Rattle.doc_patch.specs.declared.changes.Change.TheVariants.{SetBookmarks}
use Rattle.doc_patch.specs.Places.{items_at, paragraph_mark_at}
use Rattle.edit_ops.specs.Bookmarks.{bookmark_begin, place_before}
use Rattle.edit_ops.specs.Edits.{changes_of}

-- how many items a change adds
abbrev pub items_added : Change → ℕ
items_added (SpliceText story from to fresh) = length fresh
items_added (ModifyItems story from to modifier) = 0
items_added (SetSection at set) = 0
items_added (SpliceNotes from to fresh) = sum_by length fresh
items_added (SpliceHeads from to fresh) = sum_by length fresh
items_added (SetStyleCharacters istd set) = 0
items_added (SetStyleParagraphs istd set) = 0
items_added (SetBookmarks list) = 0

-- how many items of the document it removes
abbrev pub items_removed : Document → Change → ℕ
items_removed document (SpliceText story from to fresh) = to - from
items_removed document (ModifyItems story from to modifier) = 0
items_removed document (SetSection at set) = 0
items_removed document (SpliceNotes from to fresh) = sum_by length (slice_range document.notes from to)
items_removed document (SpliceHeads from to fresh) = sum_by length (slice_range document.heads from to)
items_removed document (SetStyleCharacters istd set) = 0
items_removed document (SetStyleParagraphs istd set) = 0
items_removed document (SetBookmarks list) = 0

abbrev pub style_in : Option Mark → ℕ
style_in None = 0
style_in (Some mark) = mark.istd

-- the style of the paragraph that holds the place; 0 where there is none
abbrev pub style_before : List Item → ℕ → ℕ
style_before text at = style_in (paragraph_mark_at text at)

-- the number of the kind of a command; 0 for a save, which is no edit
abbrev pub command_kind : Command → ℕ
command_kind (Insert story at text) = 1
command_kind (Erase story from to) = 2
command_kind (Char story from to set) = 3
command_kind (Plain story from to) = 4
command_kind (Para story at set) = 5
command_kind (Style story at istd) = 6
command_kind (Field story at type code result) = 7
command_kind (Note at text) = 8
command_kind (Split story at) = 9
command_kind (Merge story at) = 10
command_kind (Sect at new set) = 11
command_kind (Row story at width cells) = 12
command_kind (StyleChar istd set) = 13
command_kind (StylePara istd set) = 14
command_kind (Bookmark name from to) = 15
command_kind (Unmark name) = 16
command_kind (Save full) = 0

-- the style of the paragraph that the command begins in, before it; the style that it changes
abbrev pub style_of_command : Document → Command → ℕ
style_of_command document (Insert story at text) = style_before (items_at document story) at
style_of_command document (Erase story from to) = style_before (items_at document story) from
style_of_command document (Char story from to set) = style_before (items_at document story) from
style_of_command document (Plain story from to) = style_before (items_at document story) from
style_of_command document (Para story at set) = style_before (items_at document story) at
style_of_command document (Style story at istd) = style_before (items_at document story) at
style_of_command document (Field story at type code result) = style_before (items_at document story) at
style_of_command document (Note at text) = style_before document.main at
style_of_command document (Split story at) = style_before (items_at document story) at
style_of_command document (Merge story at) = style_before (items_at document story) at
style_of_command document (Sect at new set) = style_before document.main at
style_of_command document (Row story at width cells) = style_before (items_at document story) at
style_of_command document (StyleChar istd set) = istd
style_of_command document (StylePara istd set) = istd
style_of_command document (Bookmark name from to) = style_before document.main (place_before document.main from)
style_of_command document (Unmark name) =
    style_before document.main (place_before document.main (bookmark_begin name document.bookmarks))
style_of_command document (Save full) = 0

-- the kind of the command, the items that its changes add and remove in all texts, and that style
abbrev pub edit_facts : Document → Command → Facts
edit_facts document command = record {
  kind = command_kind command;
  units_in = sum_by items_added (changes_of document command);
  units_out = sum_by (items_removed document) (changes_of document command);
  style = style_of_command document command;
}
