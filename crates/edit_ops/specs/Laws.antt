-- What the definitions imply.
use Rattle.std.specs.Prelude.{◌≡◌, ◌≤◌, length, ⊤}
use Rattle.doc_model.specs.declared.document.Document.{Document}
use Rattle.plain_doc.specs.Sound.{IsSound}
use Rattle.doc_model.specs.Marks.{HasFormedBookmarks}
use Rattle.edit_script.specs.declared.commands.Command.{Command}
use Rattle.edit_ops.specs.declared.faults.EditFault.{EditFault}
use Rattle.edit_ops.specs.declared.faults.EditFault.TheVariants.{Range, Code, Rule, Limit, Memory}
use Rattle.edit_script.specs.declared.commands.Command.TheVariants.{Insert, Erase, Char, Plain, Para, Style, Field}
use Rattle.edit_script.specs.declared.commands.Command.TheVariants.{Note, Split, Merge, Sect, Row, StyleChar}
use Rattle.edit_script.specs.declared.commands.Command.TheVariants.{StylePara, Bookmark, Unmark, Save}
use Rattle.edit_ops.specs.Edits.{changes_of, document_after}
use Rattle.edit_ops.specs.EditFacts.{edit_facts}
use Rattle.edit_ops.specs.Causes.{CanBeTried, IsEditFault, IsAcceptedEdit}
use Rattle.doc_patch.specs.Makes.{CanMakeAll}

-- a fault for another cause than memory
abbrev pub IsEditCause : EditFault → Type 0
IsEditCause Range = ⊤
IsEditCause Code = ⊤
IsEditCause (Rule rule place at) = ⊤
IsEditCause (Limit rule place at) = ⊤
IsEditCause Memory = ⊥

-- an edit has one fault at most, and none where it is accepted
pub record EditHasOneOutcome : Type 0 where
  pub one : (document : Document) (command : Command) (one other : EditFault) → IsEditCause one → IsEditCause other →
      IsEditFault document command one → IsEditFault document command other → one ≡ other
  pub none : (document : Document) (command : Command) (fault : EditFault) → IsEditCause fault → IsAcceptedEdit document
      command → ¬ (IsEditFault document command fault)

-- a command makes three changes at most
abbrev pub ChangesAreFew : Type 0
ChangesAreFew = (document : Document) (command : Command) → length (changes_of document command) ≤ 3

-- the changes of an edit that may be tried can be made, one after another
abbrev pub ChangesCanBeMade : Type 0
ChangesCanBeMade = (document : Document) (command : Command) → IsSound document → CanBeTried document command →
    CanMakeAll (changes_of document command) document

-- an edit that may be tried leaves bookmarks in order and within the main text
abbrev pub EditsKeepBookmarks : Type 0
EditsKeepBookmarks = (document : Document) (command : Command) → HasFormedBookmarks document →
    CanBeTried document command → HasFormedBookmarks (document_after document command)

-- a command that sets codes, clears them or names a style
abbrev pub IsFormatting : Command → Type 0
IsFormatting (Insert story at text) = ⊥
IsFormatting (Erase story from to) = ⊥
IsFormatting (Char story from to set) = ⊤
IsFormatting (Plain story from to) = ⊤
IsFormatting (Para story at set) = ⊤
IsFormatting (Style story at istd) = ⊤
IsFormatting (Field story at type code shown) = ⊥
IsFormatting (Note at text) = ⊥
IsFormatting (Split story at) = ⊥
IsFormatting (Merge story at) = ⊥
IsFormatting (Sect at new set) = ⊥
IsFormatting (Row story at width cells) = ⊥
IsFormatting (StyleChar istd set) = ⊤
IsFormatting (StylePara istd set) = ⊤
IsFormatting (Bookmark name from to) = ⊥
IsFormatting (Unmark name) = ⊥
IsFormatting (Save full) = ⊥

-- by its facts no item comes and none goes
pub record MovesNoItems (document : Document) (command : Command) : Type 0 where
  pub added : (edit_facts document command).units_in ≡ 0
  pub removed : (edit_facts document command).units_out ≡ 0

abbrev pub FormattingMovesNoItems : Type 0
FormattingMovesNoItems = (document : Document) (command : Command) → IsFormatting command → MovesNoItems document
    command
