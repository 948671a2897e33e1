-- What the definitions imply.
use Rattle.std.specs.Prelude.{◌≡◌, ℕ}
use Rattle.script_run.specs.declared.faults.Stop.{Stop}
use Rattle.script_run.specs.States.{RunState}
use Rattle.script_run.specs.Commands.{Commands}
use Rattle.script_run.specs.Ends.{StopsAt, IsAcceptedRun}

-- a run stops at one command at most, for one cause, and at none where it is accepted: a script, and what is generated
pub record ScriptEndsOnce : Type 0 where
  pub index :
      (start : RunState) (commands : Commands) (i j : ℕ) (stop other : Stop) →
      StopsAt start commands i stop → StopsAt start commands j other → i ≡ j
  pub cause :
      (start : RunState) (commands : Commands) (i j : ℕ) (stop other : Stop) →
      StopsAt start commands i stop → StopsAt start commands j other → stop ≡ other
  pub none :
      (start : RunState) (commands : Commands) (i : ℕ) (stop : Stop) →
      IsAcceptedRun start commands → ¬ (StopsAt start commands i stop)
