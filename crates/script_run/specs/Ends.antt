-- How a run ends. It stops at the first command that may not be made, or it is accepted, and its last save counts.
use Rattle.std.specs.Prelude.{◌≡◌, ◌≢◌, ℕ, ◌+◌, ◌-◌, ◌<◌, ◌≤◌, List, length, Bool, true, false, Option, Some, None, ⊤}
use Rattle.edit_guards.specs.Policies.{Policy, AllGrant, IsFirstRefuser}
use Rattle.cfb_layout.specs.Counts.{most_sectors}
use Rattle.full_save.specs.Layout.{full_save_image, full_save_sectors, FitsCompoundFile}
use Rattle.doc_read.specs.Holds.{HoldsDocument, IsAccepted}
use Rattle.edit_script.specs.declared.commands.Command.{Command}
use Rattle.edit_script.specs.declared.commands.Command.TheVariants.{Save}
use Rattle.edit_ops.specs.Causes.{IsAcceptedEdit, IsEditFault}
use Rattle.edit_ops.specs.EditFacts.{edit_facts}
use Rattle.edit_ops.specs.Laws.{IsEditCause}
use Rattle.script_run.specs.declared.faults.Stop.{Stop}
use Rattle.script_run.specs.declared.faults.Stop.TheVariants.{Refused, Guarded, Sixteenth, TooManyPieces, TooLarge}
use Rattle.script_run.specs.declared.faults.RunFault.{RunFault}
use Rattle.script_run.specs.declared.faults.RunFault.TheVariants.{Stopped, Memory}
use Rattle.script_run.specs.declared.running.Saved.{Saved}
use Rattle.fast_save.specs.Ledgers.{most_pieces_added}
use Rattle.fast_save.specs.Fast.{most_quick_saves, most_pieces}
use Rattle.script_run.specs.Saves.{save_mode, save_count}
use Rattle.script_run.specs.States.{RunState, fast_sectors, most_grown}
use Rattle.script_run.specs.Files.{HasGrownFrom}
use Rattle.fast_save.specs.Session.{SessionView}
use Rattle.fast_save.specs.Edited.{bytes_added}
use Rattle.script_run.specs.Commands.{Commands, listed, command_at, state_before}

-- the edit is accepted, and each guard allows it
pub record IsGrantedEdit (state : RunState) (command : Command) : Type 0 where
  pub accepted : IsAcceptedEdit state.document command
  pub granted : AllGrant state.policies (edit_facts state.document command)

-- the edit is accepted, and this guard is the first that does not allow it
pub record IsGuardedEdit (state : RunState) (command : Command) (guard : ℕ) : Type 0 where
  pub accepted : IsAcceptedEdit state.document command
  pub refuser : IsFirstRefuser state.policies (edit_facts state.document command) guard

-- an edit stops the run where it is refused, for another cause than memory; else where a guard does not allow it
abbrev pub StopsEdit : RunState → Command → Stop → Type 0
StopsEdit state command (Refused fault) = IsEditCause fault × IsEditFault state.document command fault
StopsEdit state command (Guarded guard) = IsGuardedEdit state command guard
StopsEdit state command (Sixteenth count) = ⊥
StopsEdit state command (TooManyPieces pieces) = ⊥
StopsEdit state command (TooLarge sectors) = ⊥

-- a full save stops it where its file needs more sectors than one has
abbrev pub StopsFullSave : RunState → Stop → Type 0
StopsFullSave state (Refused fault) = ⊥
StopsFullSave state (Guarded guard) = ⊥
StopsFullSave state (Sixteenth count) = ⊥
StopsFullSave state (TooManyPieces pieces) = ⊥
StopsFullSave state (TooLarge sectors) =
    (most_sectors < full_save_sectors state.document) × (sectors ≡ full_save_sectors state.document)

-- a fast save has room for one more command's pieces, and is none too many in a row
pub record HasRoomFast (state : RunState) : Type 0 where
  pub few : state.quick_saves ≢ most_quick_saves
  pub pieces : state.counts.pieces + most_pieces_added ≤ most_pieces

-- a fast save stops it where the file counts fifteen in a row; else where it may have too many pieces; else where the
-- sectors that are reckoned are too many
abbrev pub StopsFastSave : RunState → Stop → Type 0
StopsFastSave state (Refused fault) = ⊥
StopsFastSave state (Guarded guard) = ⊥
StopsFastSave state (Sixteenth count) = (state.quick_saves ≡ most_quick_saves) × (count ≡ state.quick_saves)
StopsFastSave state (TooManyPieces pieces) =
    (state.quick_saves ≢ most_quick_saves)
    × ((most_pieces < state.counts.pieces + most_pieces_added) × (pieces ≡ state.counts.pieces))
StopsFastSave state (TooLarge sectors) =
    HasRoomFast state × ((most_sectors < fast_sectors state) × (sectors ≡ fast_sectors state))

-- the fast save is made
pub record PassesFastSave (state : RunState) : Type 0 where
  pub room : HasRoomFast state
  pub fits : fast_sectors state ≤ most_sectors

abbrev pub StopsBy : Option Bool → RunState → Command → Stop → Type 0
StopsBy None state command stop = StopsEdit state command stop
StopsBy (Some true) state command stop = StopsFullSave state stop
StopsBy (Some false) state command stop = StopsFastSave state stop

-- the command stops the run, for this cause
abbrev pub Stops : RunState → Command → Stop → Type 0
Stops state command stop = StopsBy (save_mode command) state command stop

abbrev pub PassesBy : Option Bool → RunState → Command → Type 0
PassesBy None state command = IsGrantedEdit state command
PassesBy (Some true) state command = FitsCompoundFile state.document
PassesBy (Some false) state command = PassesFastSave state

-- the command is made
abbrev pub Passes : RunState → Command → Type 0
Passes state command = PassesBy (save_mode command) state command

-- there is a command of this number, and it passes
pub record PassesAt (start : RunState) (commands : Commands) (i : ℕ) : Type 0 where
  pub command : Command
  pub there : command_at commands i (state_before start commands i) ≡ Some command
  pub passes : Passes (state_before start commands i) command

-- each command before this number passes
abbrev pub PassesUpTo : RunState → Commands → ℕ → Type 0
PassesUpTo start commands i = (k : ℕ) → k < i → PassesAt start commands k

-- the run stops at the command of this number, and at none before it
pub record StopsAt (start : RunState) (commands : Commands) (i : ℕ) (stop : Stop) : Type 0 where
  pub within : i < commands.count
  pub command : Command
  pub there : command_at commands i (state_before start commands i) ≡ Some command
  pub before : PassesUpTo start commands i
  pub stops : Stops (state_before start commands i) command stop

-- the run does not stop
abbrev pub IsAcceptedRun : RunState → Commands → Type 0
IsAcceptedRun start commands = PassesUpTo start commands commands.count

-- what has been when all commands are made
abbrev pub end_state : RunState → Commands → RunState
end_state start commands = state_before start commands commands.count

-- a script does not stop
abbrev pub IsAcceptedScript : RunState → List Command → Type 0
IsAcceptedScript start script = IsAcceptedRun start (listed script)

-- the last command is a save in this mode
abbrev pub EndsInMode : Bool → RunState → Commands → Type 0
EndsInMode full start commands =
    command_at commands (commands.count - 1) (state_before start commands (commands.count - 1)) ≡ Some (Save full)

-- the bytes of the last save, where these have been the commands: they are accepted and hold the document after all
-- commands. Where that save is full they are the full save of this document. Where it is fast they have grown from the
-- file that was given or last saved in full, by no more than what the commands since then may add
pub record IsLastSave (start : RunState) (commands : Commands) (image : List ℕ) : Type 0 where
  pub accepted : IsAccepted image
  pub holds : HoldsDocument image (end_state start commands).document
  pub full : EndsInMode true start commands → image ≡ full_save_image (end_state start commands).document
  pub fast :
      EndsInMode false start commands →
      HasGrownFrom (end_state start commands).file (most_grown (end_state start commands).since)
      (end_state start commands).quick_saves image

-- the script is accepted; these are the bytes of its last save and the counts of its commands
pub record IsSavedBy (start : RunState) (script : List Command) (saved : Saved) : Type 0 where
  pub accepted : IsAcceptedScript start script
  pub image : IsLastSave start (listed script) saved.image
  pub count : saved.commands ≡ length script
  pub fast : saved.saves.fast ≡ save_count false script
  pub full : saved.saves.full ≡ save_count true script

-- what a run begins with: nothing was changed since the file was given or last saved
pub record IsUnchanged (session : SessionView) : Type 0 where
  pub holds : HoldsDocument session.bytes session.document
  pub none : bytes_added session.counts ≡ 0

-- the run stops there, or memory is refused, which is free
abbrev pub IsRunFault : RunState → Commands → RunFault → Type 0
IsRunFault start commands (Stopped index stop) = StopsAt start commands index stop
IsRunFault start commands Memory = ⊤

-- the guards were told of the edits before some command, which all pass
pub record AreToldBefore (start : RunState) (commands : Commands) (policies : List Policy) : Type 0 where
  pub index : ℕ
  pub within : index ≤ commands.count
  pub passed : PassesUpTo start commands index
  pub told : policies ≡ (state_before start commands index).policies

-- the guards were told of the edits before the command that stops the run; where memory is refused, of those before
-- some command
abbrev pub AreToldUpTo : RunState → Commands → RunFault → List Policy → Type 0
AreToldUpTo start commands (Stopped index stop) policies = policies ≡ (state_before start commands index).policies
AreToldUpTo start commands Memory policies = AreToldBefore start commands policies

-- the command of this number stops the run for such a cause
abbrev pub HaltsBy : ℕ → (Stop → Type 0) → RunFault → Type 0
HaltsBy index such (Stopped at stop) = (at ≡ index) × such stop
HaltsBy index such Memory = ⊤
