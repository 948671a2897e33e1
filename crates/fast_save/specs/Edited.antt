-- A session after an accepted edit: the document and the counts; the file stays.
use Rattle.std.specs.Prelude.{◌≡◌, ℕ, ◌+◌, ◌*◌, ◌≤◌}
use Rattle.doc_model.specs.declared.document.Document.{Document}
use Rattle.edit_script.specs.declared.commands.Command.{Command}
use Rattle.edit_ops.specs.Causes.{IsAcceptedEdit}
use Rattle.edit_ops.specs.Edits.{changes_of, document_after}
use Rattle.edit_ops.specs.EditFacts.{edit_facts}
use Rattle.edit_ops.specs.declared.applying.Edit.{Edit}
use Rattle.fast_save.specs.declared.ledgers.Counts.{Counts}
use Rattle.fast_save.specs.Ledgers.{after_edit}
use Rattle.fast_save.specs.Session.{SessionView}

-- an edit that is accepted: its changes, the document after them, and what it does
abbrev pub IsPlannedEdit : Document → Command → Edit → Type 0
IsPlannedEdit document command edit =
    IsAcceptedEdit document command
    × ((edit.changes ≡ changes_of document command)
    × ((edit.document ≡ document_after document command)
    × (edit.facts ≡ edit_facts document command)))

abbrev pub session_after : Command → SessionView → SessionView
session_after command session = record session {
  document = document_after session.document command;
  counts = after_edit command (edit_facts session.document command).units_in session.counts;
}

-- the bytes that are reckoned for what was added since the last save
abbrev pub bytes_added : Counts → ℕ
bytes_added counts = 2 * counts.units + 512 * counts.runs + 512 * counts.sections

-- Profile: so little was added since the last save that one more edit may be made
abbrev pub HasEditRoom : Counts → Type 0
HasEditRoom counts = bytes_added counts ≤ 4270000000

-- the most bytes that an accepted edit adds. 4,096 times as many leave room
abbrev pub most_added : ℕ
most_added = 1033790

abbrev pub EditsAddLittle : Type 0
EditsAddLittle =
    (document : Document) (command : Command) (counts : Counts) → IsAcceptedEdit document command →
    bytes_added (after_edit command (edit_facts document command).units_in counts) ≤ bytes_added counts + most_added
