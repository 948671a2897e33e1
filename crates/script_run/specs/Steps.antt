-- One step of a run, and how far it has come.
use Rattle.std.specs.Prelude.{◌≡◌, ℕ, ◌*◌, ◌≤◌, List, length, Some}
use Rattle.edit_guards.specs.Policies.{Policy}
use Rattle.edit_script.specs.declared.commands.Command.{Command}
use Rattle.doc_read.specs.Holds.{HoldsDocument}
use Rattle.full_save.specs.WordDocument.{table_stream}
use Rattle.full_save.specs.Layout.{FitsCompoundFile}
use Rattle.fast_save.specs.Ledgers.{sector_bound}
use Rattle.fast_save.specs.Laws.{IsHeldInFull}
use Rattle.fast_save.specs.Session.{SessionView}
use Rattle.fast_save.specs.Edited.{bytes_added, most_added}
use Rattle.script_run.specs.declared.faults.RunFault.{RunFault}
use Rattle.script_run.specs.declared.faults.Stop.{Stop}
use Rattle.script_run.specs.States.{RunState, fast_sectors, state_after, session_in_full}
use Rattle.script_run.specs.Files.{IsFileOfState}
use Rattle.script_run.specs.Commands.{Commands, command_at, state_before}
use Rattle.script_run.specs.Ends.{Passes, Stops, StopsFullSave, StopsFastSave, PassesUpTo, HaltsBy}

-- the session and the guards are where the commands so far have come to
pub record IsAtState (state : RunState) (session : SessionView) (policies : List Policy) : Type 0 where
  pub document : session.document ≡ state.document
  pub counts : session.counts ≡ state.counts
  pub quick_saves : session.quick_saves ≡ state.quick_saves
  pub policies_are : policies ≡ state.policies
  pub holds : HoldsDocument session.bytes state.held
  pub file : IsFileOfState state session.bytes

-- the command passes, and leaves this
pub record MakesBy (command : Command) (state : RunState) (session : SessionView) (policies : List Policy) : Type 0
  where
    pub passes : Passes state command
    pub leaves : IsAtState (state_after state command) session policies

-- the command of this number does
pub record MakesCommand (commands : Commands) (i : ℕ) (state : RunState) (session : SessionView) (policies : List
    Policy)
    : Type 0 where
  pub command : Command
  pub there : command_at commands i state ≡ Some command
  pub makes : MakesBy command state session policies

-- the command of this number stops the run, for this cause
pub record StopsCommand (commands : Commands) (i : ℕ) (state : RunState) (stop : Stop) : Type 0 where
  pub command : Command
  pub there : command_at commands i state ≡ Some command
  pub stops : Stops state command stop

-- whatever has been so far: the command passes from one session and guards to others
abbrev pub Makes : Command → SessionView → List Policy → SessionView → List Policy → Type 0
Makes command session policies made told =
    (state : RunState) → IsAtState state session policies → MakesBy command state made told

-- the command of this number stops the run there
abbrev pub Halts : Command → SessionView → List Policy → ℕ → RunFault → Type 0
Halts command session policies index fault =
    (state : RunState) → IsAtState state session policies → HaltsBy index (Stops state command) fault

-- the command of this number passes
abbrev pub MakesNumber : Commands → ℕ → SessionView → List Policy → SessionView → List Policy → Type 0
MakesNumber commands i session policies made told =
    (state : RunState) → IsAtState state session policies → MakesCommand commands i state made told

-- it stops the run
abbrev pub HaltsNumber : Commands → ℕ → SessionView → List Policy → RunFault → Type 0
HaltsNumber commands i session policies fault =
    (state : RunState) → IsAtState state session policies → HaltsBy i (StopsCommand commands i state) fault

-- each command before this number passes, and they leave this; so little was added that one more may be made
pub record IsRunTo (start : RunState) (commands : Commands) (i : ℕ) (session : SessionView) (policies : List Policy)
    : Type 0 where
  pub at : IsAtState (state_before start commands i) session policies
  pub passed : PassesUpTo start commands i
  pub room : bytes_added session.counts ≤ i * most_added

-- a full save of the document, which fits
pub record IsFullSave (session made : SessionView) : Type 0 where
  pub fits : FitsCompoundFile session.document
  pub held : IsHeldInFull session.document
  pub is : made ≡ session_in_full session.document

-- the state that a session is of, as far as a fast save goes by it
pub record IsCountedAs (session : SessionView) (state : RunState) : Type 0 where
  pub quick_saves : state.quick_saves ≡ session.quick_saves
  pub counts : state.counts ≡ session.counts
  pub sectors : fast_sectors state ≡ sector_bound session.counts (length (table_stream session.document))

-- the full save stops every run that is at this document
abbrev pub HaltsFull : SessionView → ℕ → RunFault → Type 0
HaltsFull session index fault =
    (state : RunState) → state.document ≡ session.document → HaltsBy index (StopsFullSave state) fault

-- the fast save stops every run that is at these counts
abbrev pub HaltsFast : SessionView → ℕ → RunFault → Type 0
HaltsFast session index fault =
    (state : RunState) → IsCountedAs session state → HaltsBy index (StopsFastSave state) fault
