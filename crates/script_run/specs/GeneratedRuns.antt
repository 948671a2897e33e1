-- A run of the generator: it begins on the full save of the blank document, and no guard is asked.
use Rattle.std.specs.Prelude.{◌≡◌, ℕ, ◌≤◌, true, false, List, [], map, is_some}
use Rattle.std.specs.List.{count_by, filter_map, range_with_len}
use Rattle.doc_model.specs.declared.item.Item.{Item}
use Rattle.doc_columns.specs.declared.attached.Attached.{Attached}
use Rattle.doc_model.specs.Blank.{blank_document}
use Rattle.plain_doc.specs.RulesOfSheet.{item_count}
use Rattle.full_save.specs.Layout.{full_save_image}
use Rattle.edit_script.specs.declared.commands.Command.{Command}
use Rattle.edit_guards.specs.Policies.{Policy}
use Rattle.fast_save.specs.Session.{SessionView}
use Rattle.script_run.specs.declared.generating.Generated.{Generated}
use Rattle.script_run.specs.Saves.{save_count}
use Rattle.script_run.specs.States.{RunState, starting_state, session_in_full}
use Rattle.script_run.specs.Commands.{Commands, command_at, state_before}
use Rattle.script_run.specs.Generated.{generated}
use Rattle.script_run.specs.Steps.{IsRunTo}
use Rattle.script_run.specs.Ends.{IsAcceptedRun, IsLastSave, end_state}

-- Profile: the greatest seed
abbrev pub most_seed : ℕ
most_seed = 4000

abbrev pub generator_start : RunState
generator_start = starting_state (session_in_full blank_document) []

-- the commands of a run, each as it was read off what those before it had come to
abbrev pub commands_run : RunState → Commands → List Command
commands_run start commands =
    filter_map (λ command. command)
    (map (λ i. command_at commands i (state_before start commands i)) (range_with_len 0 commands.count))

-- a session on which all commands from a seed are made
abbrev pub IsGeneratedRun : ℕ → SessionView → Type 0
IsGeneratedRun seed session =
    (policies : List Policy) × IsRunTo generator_start (generated seed) (generated seed).count session policies

-- the marks of a text
abbrev pub mark_count : List Item → ℕ
mark_count text = count_by (λ item. is_some item.mark) text

-- the marks of what is beside items
abbrev pub marks_beside : List Attached → ℕ
marks_beside attachments = count_by (λ beside. is_some beside.mark) attachments

-- all commands from the seed are made. These are the bytes of the last save; from 0 there is none, and they are the
-- full save
-- of the blank document. The document after all commands has so many items and marks, and there were so many saves
pub record IsGeneratedBy (seed : ℕ) (made : Generated) : Type 0 where
  pub accepted : IsAcceptedRun generator_start (generated seed)
  pub image : IsLastSave generator_start (generated seed) made.image
  pub blank : seed ≡ 0 → made.image ≡ full_save_image blank_document
  pub units : made.units ≡ item_count (end_state generator_start (generated seed)).document
  pub paragraphs : made.paragraphs ≡ mark_count (end_state generator_start (generated seed)).document.main
  pub fast : made.saves.fast ≡ save_count false (commands_run generator_start (generated seed))
  pub full : made.saves.full ≡ save_count true (commands_run generator_start (generated seed))

-- no command of the generator is refused, no edit and no save
abbrev pub GeneratorIsAccepted : Type 0
GeneratorIsAccepted = (seed : ℕ) → seed ≤ most_seed → IsAcceptedRun generator_start (generated seed)
