-- How many runs of properties a command puts: of characters, and of paragraphs. A save writes so many of them at most.
use Rattle.std.specs.Prelude.{ℕ, ◌+◌, ◌≤◌, Bool, true, false, List, [], ◌∷◌, length, is_some}
use Rattle.std.specs.List.{count_by, sum_by}
use Rattle.doc_model.specs.declared.item.Item.{Item}
use Rattle.doc_model.specs.declared.document.Document.{Document}
use Rattle.doc_model.specs.Stretches.{stretches}
use Rattle.doc_model.specs.Settings.{is_alike}
use Rattle.edit_script.specs.declared.commands.Command.{Command}
use Rattle.edit_script.specs.declared.commands.Command.TheVariants.{Insert, Erase, Char, Plain, Para, Style, Field}
use Rattle.edit_script.specs.declared.commands.Command.TheVariants.{Note, Split, Merge, Sect, Row, StyleChar}
use Rattle.edit_script.specs.declared.commands.Command.TheVariants.{StylePara, Bookmark, Unmark, Save}
use Rattle.doc_patch.specs.declared.changes.Change.{Change}
use Rattle.doc_patch.specs.declared.changes.Change.TheVariants.{SpliceText, ModifyItems, SetSection, SpliceNotes}
use Rattle.doc_patch.specs.declared.changes.Change.TheVariants.{SpliceHeads, SetStyleCharacters, SetStyleParagraphs}
use Rattle.doc_patch.specs.declared.changes.Change.TheVariants.{SetBookmarks}
use Rattle.edit_ops.specs.Edits.{changes_of}

-- the paragraphs that end in a text
abbrev pub paragraph_count : List Item → ℕ
paragraph_count text = count_by (λ item. is_some item.mark) text

-- the stretches of items with equal properties, and the paragraphs
abbrev pub run_count : List Item → ℕ
run_count text = length (stretches is_alike text) + paragraph_count text

-- the texts that a change puts
abbrev pub texts_put : Change → List (List Item)
texts_put (SpliceText story from to fresh) = fresh ∷ []
texts_put (ModifyItems story from to modifier) = []
texts_put (SetSection at set) = []
texts_put (SpliceNotes from to fresh) = fresh
texts_put (SpliceHeads from to fresh) = fresh
texts_put (SetStyleCharacters istd set) = []
texts_put (SetStyleParagraphs istd set) = []
texts_put (SetBookmarks list) = []

-- the runs of what a command puts
abbrev pub runs_put : Document → Command → ℕ
runs_put document command = sum_by (λ change. sum_by run_count (texts_put change)) (changes_of document command)

abbrev pub most_runs_of_section : Bool → ℕ
most_runs_of_section true = 2
most_runs_of_section false = 0

-- Profile: the runs that are reckoned for a command, whatever the document is
abbrev pub reckoned_runs : Command → ℕ
reckoned_runs (Insert story at text) = 3
reckoned_runs (Erase story from to) = 0
reckoned_runs (Char story from to set) = 0
reckoned_runs (Plain story from to) = 0
reckoned_runs (Para story at set) = 0
reckoned_runs (Style story at istd) = 0
reckoned_runs (Field story at type code result) = 5
reckoned_runs (Note at text) = 5
reckoned_runs (Split story at) = 2
reckoned_runs (Merge story at) = 0
reckoned_runs (Sect at new set) = most_runs_of_section new
reckoned_runs (Row story at width cells) = length cells + 2
reckoned_runs (StyleChar istd set) = 0
reckoned_runs (StylePara istd set) = 0
reckoned_runs (Bookmark name from to) = 0
reckoned_runs (Unmark name) = 0
reckoned_runs (Save full) = 0

-- no command puts more runs than are reckoned for it
abbrev pub RunsAreFew : Type 0
RunsAreFew = (document : Document) (command : Command) → runs_put document command ≤ reckoned_runs command
