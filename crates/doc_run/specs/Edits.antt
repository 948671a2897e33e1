-- How a run ends that edits a document by a script.
use Rattle.std.specs.Prelude.{◌≡◌, ◌⊎◌, ℕ, ◌-◌, Bool, true, false, List, length, slice_get, Option, Some}
use Rattle.doc_outer.specs.Held.{Files}
use Rattle.fast_save.specs.Session.{SessionView}
use Rattle.fast_save.specs.Started.{IsStarted}
use Rattle.edit_script.specs.declared.commands.Command.{Command}
use Rattle.edit_script.specs.declared.commands.Command.TheVariants.{Save}
use Rattle.edit_script.specs.declared.faults.ScriptFault.{ScriptFault}
use Rattle.edit_script.specs.declared.faults.ScriptFault.TheVariants.{TooLong}
use Rattle.edit_script.specs.Scripts.{IsScript, IsScriptFault}
use Rattle.edit_script.specs.Laws.{IsScriptCause}
use Rattle.script_run.specs.declared.faults.Stop.{Stop}
use Rattle.script_run.specs.declared.faults.Stop.TheVariants.{Refused, Guarded, Sixteenth, TooManyPieces, TooLarge}
use Rattle.edit_guards.specs.Policies.{Policy}
use Rattle.script_run.specs.States.{RunState, starting_state}
use Rattle.script_run.specs.Commands.{listed}
use Rattle.script_run.specs.Saves.{save_count}
use Rattle.script_run.specs.Ends.{StopsAt, IsAcceptedScript, IsLastSave}
use Rattle.document_commands.specs.declared.reply.Reply.{Reply}
use Rattle.document_commands.specs.declared.reply.Reply.TheVariants as reply
use Rattle.document_commands.specs.declared.reply.Refusal.{Refusal}
use Rattle.document_commands.specs.declared.reply.Refusal.TheVariants as refusal
use Rattle.run_stages.specs.Outcomes.{Outcome, says}
use Rattle.document_commands.specs.Replies.{EndsByReply}
use Rattle.doc_run.specs.EditLines.{script_line, stop_line, edited_line}
use Rattle.run_stages.specs.Stages.{ReadsNamedFile}

-- why a run is refused that a command of the script stops: an edit that is refused, one that a guard does not allow, or
-- a save
abbrev pub refusal_of : Stop → Refusal
refusal_of (Refused fault) = refusal.Edit
refusal_of (Guarded guard) = refusal.Guarded
refusal_of (Sixteenth count) = refusal.Save
refusal_of (TooManyPieces pieces) = refusal.Save
refusal_of (TooLarge sectors) = refusal.Save

-- the script stops, and the line names the first command that stops it
pub record StopsRun (start : RunState) (commands : List Command) (answer : Reply) : Type 0 where
  pub index : ℕ
  pub stop : Stop
  pub at : StopsAt start (listed commands) index stop
  pub ends : answer ≡ reply.Refused (refusal_of stop) (stop_line index stop)

-- the line of a script that is accepted: its commands, and its saves by mode
abbrev pub script_counts_line : List Command → List ℕ
script_counts_line commands = edited_line (length commands) (save_count false commands) (save_count true commands)

-- the script is accepted, and the bytes of its last save are to be put: a file that breaks no rule and holds the
-- document after all commands. Where that save is full it is the full save of this document; where it is fast the file
-- has grown from the one that was given or last saved in full
pub record PutsLastSave (start : RunState) (commands : List Command) (answer : Reply) : Type 0 where
  pub accepted : IsAcceptedScript start commands
  pub image : List ℕ
  pub last : IsLastSave start (listed commands) image
  pub ends : answer ≡ reply.Made (script_counts_line commands) image

-- the last command is a save in this mode
abbrev pub SavesLast : Bool → List Command → Type 0
SavesLast full commands = slice_get commands (length commands - 1) ≡ Some (Save full)

-- a session is run by commands, from a state before the first one
abbrev pub Edits : RunState → List Command → Reply → Type 0
Edits start commands answer = StopsRun start commands answer ⊎ PutsLastSave start commands answer

-- the bytes are no script, and the line says why
pub record IsNoScript (bytes : List ℕ) (answer : Reply) : Type 0 where
  pub fault : ScriptFault
  pub cause : IsScriptCause fault
  pub is : IsScriptFault bytes fault
  pub ends : answer ≡ reply.Refused refusal.Script (script_line fault)

-- they are a script, which runs the session
pub record IsRun (start : RunState) (bytes : List ℕ) (answer : Reply) : Type 0 where
  pub commands : List Command
  pub is : IsScript bytes commands
  pub edits : Edits start commands answer

-- the bytes are checked as a script, and run the session
abbrev pub EditsBy : RunState → (bytes : List ℕ) → Reply → Type 0
EditsBy start bytes answer = IsNoScript bytes answer ⊎ IsRun start bytes answer

-- a script that is overlong
abbrev pub IsOverlongScript : Outcome → Type 0
IsOverlongScript outcome = outcome ≡ says 7 (script_line TooLong)

-- the script is read, and runs the session; what it makes is put under a name
abbrev pub ReadsScript : (script out : List ℕ) → Option Files → RunState → Outcome → Type 0
ReadsScript script out held start =
    ReadsNamedFile script held IsOverlongScript (λ bytes. EndsByReply (Some out) (EditsBy start bytes))

-- the session that begins on a file is run under the guards' policies: the script is looked for once the file is
-- accepted
pub record EditsFile
    (policies : List Policy) (script out : List ℕ) (held : Option Files) (file : List ℕ) (outcome : Outcome) :
    Type 0 where
  pub session : SessionView
  pub started : IsStarted file session
  pub reads : ReadsScript script out held (starting_state session policies) outcome
