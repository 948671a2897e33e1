-- How a run may end, command by command. The ways exclude each other.
use Rattle.std.specs.Prelude.{◌≡◌, ◌≢◌, ◌⊎◌, ℕ, false, List, Option, Some}
use Rattle.doc_outer.specs.Held.{Files, file_at}
use Rattle.doc_read.specs.Holds.{all_rules}
use Rattle.edit_script.specs.declared.commands.Command.{Command}
use Rattle.edit_script.specs.Scripts.{IsScript}
use Rattle.edit_guards.specs.Policies.{Policy}
use Rattle.script_run.specs.Generated.{generated}
use Rattle.script_run.specs.GeneratedRuns.{generator_start}
use Rattle.script_run.specs.Ends.{EndsInMode}
use Rattle.document_commands.specs.Lines.{usage_line}
use Rattle.run_stages.specs.Outcomes.{Outcome, says, AreAlike}
use Rattle.document_commands.specs.Tasks.{PairTask}
use Rattle.document_commands.specs.Judged.{rules_by_place}
use Rattle.document_commands.specs.Answers.{ListsStreams, AnswersFile, AnswersTwo}
use Rattle.doc_run.specs.Commands.{Request, streams, on_document, on_two, edit, from_json, generate}
use Rattle.doc_run.specs.Commands.{IsCommand, IsNoCommand}
use Rattle.run_stages.specs.Stages.{ReadsFile}
use Rattle.doc_run.specs.Edits.{SavesLast, EditsFile}
use Rattle.doc_run.specs.Imports.{ReadsJson}
use Rattle.doc_run.specs.Generates.{EndsGenerated}

-- the second file is read once the first one is accepted
abbrev pub ReadsSecond : PairTask → (second : List ℕ) → Option Files → (first_file : List ℕ) → Outcome → Type 0
ReadsSecond pair second held first_file = ReadsFile second held all_rules (AnswersTwo pair first_file)

-- how a command ends, under the guards' policies
abbrev pub EndsCommand : List Policy → Request → Option Files → Outcome → Type 0
EndsCommand policies (streams file) held = ReadsFile file held rules_by_place ListsStreams
EndsCommand policies (on_document task file) held = ReadsFile file held all_rules (AnswersFile task file)
EndsCommand policies (on_two pair first second) held = ReadsFile first held all_rules (ReadsSecond pair second held)
EndsCommand policies (edit file script out) held = ReadsFile file held all_rules (EditsFile policies script out held)
EndsCommand policies (from_json file out) held = ReadsJson file out held
EndsCommand policies (generate seed out) held = EndsGenerated seed out

-- the words are no command
pub record IsUsage (words : List (List ℕ)) (outcome : Outcome) : Type 0 where
  pub none : IsNoCommand words
  pub ends : outcome ≡ says 2 usage_line

-- the words are a command, which ends so
pub record IsServed (policies : List Policy) (words : List (List ℕ)) (held : Option Files) (outcome : Outcome) :
    Type 0 where
  pub command : Request
  pub asked : IsCommand words command
  pub ends : EndsCommand policies command held outcome

-- a run over these words and this shelf, under the guards' policies, may end so
abbrev pub IsEnding : List Policy → List (List ℕ) → Option Files → Outcome → Type 0
IsEnding policies words held outcome = IsUsage words outcome ⊎ IsServed policies words held outcome

-- the words ask for an edit by a script whose last save is a fast one
pub record EditsFast (words : List (List ℕ)) (files : Files) : Type 0 where
  pub file : List ℕ
  pub script : List ℕ
  pub out : List ℕ
  pub asked : IsCommand words (edit file script out)
  pub bytes : List ℕ
  pub there : file_at files script ≡ Some bytes
  pub commands : List Command
  pub is : IsScript bytes commands
  pub last : SavesLast false commands

-- they ask for what the generator makes of a seed from which the last save is a fast one
pub record GeneratesFast (words : List (List ℕ)) : Type 0 where
  pub seed : ℕ
  pub out : List ℕ
  pub asked : IsCommand words (generate seed out)
  pub last : EndsInMode false generator_start (generated seed)

-- the last save of what the words ask for is a fast one
abbrev pub EndsFast : List (List ℕ) → Files → Type 0
EndsFast words files = EditsFast words files ⊎ GeneratesFast words

-- where what names hold is known, a run has one status, one text and one name for what it puts, unless the shelf fails.
-- What it puts is one too, but for the bytes of a last save that is fast
pub record EndingIsOne : Type 0 where
  pub alike :
      (policies : List Policy) (words : List (List ℕ)) (files : Files) (a b : Outcome) →
      IsEnding policies words (Some files) a → IsEnding policies words (Some files) b →
      a.status ≢ 4 → b.status ≢ 4 → AreAlike a b
  pub same :
      (policies : List Policy) (words : List (List ℕ)) (files : Files) (a b : Outcome) →
      IsEnding policies words (Some files) a → IsEnding policies words (Some files) b →
      a.status ≢ 4 → b.status ≢ 4 → ¬ (EndsFast words files) → a ≡ b
