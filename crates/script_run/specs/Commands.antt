-- What a run goes over: commands in order. Each is read off the document so far and the fast saves that the file
-- counts; those of a script are there from the first.
use Rattle.std.specs.Prelude.{ℕ, zero, suc, List, length, slice_get, Option, Some, None}
use Rattle.doc_model.specs.declared.document.Document.{Document}
use Rattle.edit_script.specs.declared.commands.Command.{Command}
use Rattle.script_run.specs.States.{RunState, state_after}

-- so many commands, and the command of each number
pub record Commands : Type 0 where
  pub count : ℕ
  pub at : ℕ → Document → (quick_saves : ℕ) → Option Command

-- those of a script
abbrev pub listed : List Command → Commands
listed script = record { count = length script; at = λ i document quick_saves. slice_get script i }

-- the command of this number, where this has been so far
abbrev pub command_at : Commands → ℕ → RunState → Option Command
command_at commands i state = commands.at i state.document state.quick_saves

abbrev pub state_on : RunState → Option Command → RunState
state_on state None = state
state_on state (Some command) = state_after state command

-- before the command of this number: each command before it is made, on what the ones before have left
unfoldable pub state_before : RunState → Commands → ℕ → RunState
state_before start commands zero = start
state_before start commands (suc i) =
    state_on (state_before start commands i) (command_at commands i (state_before start commands i))
