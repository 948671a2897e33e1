-- When a run is to give the defined output.
use Rattle.std.specs.Prelude.{◌≡◌, ◌≤◌, ℕ, List, Some, length, ⊤}
use Rattle.doc_bits.specs.Rules.{Rules, Hold}
use Rattle.doc_bits.specs.Places.{Place}
use Rattle.doc_outer.specs.Held.{Files, file_at}
use Rattle.doc_model.specs.declared.document.Document.{Document}
use Rattle.doc_read.specs.Holds.{HoldsDocument, all_rules}
use Rattle.edit_script.specs.declared.commands.Command.{Command}
use Rattle.edit_script.specs.Scripts.{IsScript}
use Rattle.edit_guards.specs.Policies.{Policy}
use Rattle.script_run.specs.States.{starting_state}
use Rattle.fast_save.specs.Session.{SessionView}
use Rattle.fast_save.specs.Started.{IsStarted}
use Rattle.script_run.specs.Ends.{IsAcceptedScript}
use Rattle.document_commands.specs.Tasks.{FileTask, PairTask}
use Rattle.document_commands.specs.Judged.{rules_by_place}
use Rattle.document_commands.specs.Replies.{CanReply, CanReplyTwo}
use Rattle.run_stages.specs.Stages.{longest_file}
use Rattle.document_commands.specs.Imports.{CanImport}
use Rattle.doc_run.specs.Commands.{Request, streams, on_document, on_two, edit, from_json, generate}

-- the name holds bytes that break none of the rules
pub record HoldsRight (rules : List ℕ → Rules Place) (files : Files) (name : List ℕ) : Type 0 where
  pub bytes : List ℕ
  pub there : file_at files name ≡ Some bytes
  pub hold : Hold (rules bytes)

-- the document of the name is accepted, and the task can be done on it
pub record IsAnswerable (task : FileTask) (files : Files) (name : List ℕ) : Type 0 where
  pub right : HoldsRight all_rules files name
  pub can : (document : Document) → HoldsDocument right.bytes document → CanReply task document

-- the documents of the names are accepted, and the task can be done on both
pub record AreAnswerable (pair : PairTask) (files : Files) (first second : List ℕ) : Type 0 where
  pub right_first : HoldsRight all_rules files first
  pub right_second : HoldsRight all_rules files second
  pub can :
      (one other : Document) → HoldsDocument right_first.bytes one → HoldsDocument right_second.bytes other →
      CanReplyTwo pair one other

-- the file is accepted, and the script is one that a session on it accepts: each edit is granted by all policies too,
-- and no save is refused
pub record IsEditable (policies : List Policy) (files : Files) (file script : List ℕ) : Type 0 where
  pub right : HoldsRight all_rules files file
  pub bytes : List ℕ
  pub there : file_at files script ≡ Some bytes
  pub short : length bytes ≤ longest_file
  pub commands : List Command
  pub is : IsScript bytes commands
  pub accepted :
      (session : SessionView) → IsStarted right.bytes session →
      IsAcceptedScript (starting_state session policies) commands

-- the name holds the JSON of a document that can be saved, and no more bytes than any file
pub record IsImportable (files : Files) (name : List ℕ) : Type 0 where
  pub bytes : List ℕ
  pub there : file_at files name ≡ Some bytes
  pub short : length bytes ≤ longest_file
  pub can : CanImport bytes

-- nothing that the command names is in its way
abbrev pub CanServe : List Policy → Request → Files → Type 0
CanServe policies (streams file) files = HoldsRight rules_by_place files file
CanServe policies (on_document task file) files = IsAnswerable task files file
CanServe policies (on_two pair first second) files = AreAnswerable pair files first second
CanServe policies (edit file script out) files = IsEditable policies files file script
CanServe policies (from_json file out) files = IsImportable files file
CanServe policies (generate seed out) files = ⊤
