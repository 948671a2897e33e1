-- How a run ends that makes a file by the generator.
use Rattle.std.specs.Prelude.{◌≡◌, ◌⊎◌, ℕ, true, false, List, ◌++◌, Some, codes}
use Rattle.std.specs.Fmt.{decimal}
use Rattle.doc_model.specs.Blank.{blank_document}
use Rattle.plain_doc.specs.RulesOfSheet.{item_count}
use Rattle.full_save.specs.Layout.{full_save_image}
use Rattle.script_run.specs.Saves.{save_count}
use Rattle.script_run.specs.Generated.{generated}
use Rattle.script_run.specs.Ends.{IsAcceptedRun, IsLastSave, end_state}
use Rattle.script_run.specs.GeneratedRuns.{generator_start, commands_run, mark_count}
use Rattle.document_commands.specs.declared.reply.Reply.{Reply}
use Rattle.document_commands.specs.declared.reply.Reply.TheVariants.{Made}
use Rattle.run_stages.specs.Outcomes.{Outcome}
use Rattle.document_commands.specs.Replies.{EndsByReply}
use Rattle.text_codes.specs.Shown.{line}
use Rattle.run_stages.specs.Stages.{IsShelfFault}

-- what the generator made of a seed: the items of all texts, the marks of the main text, and the saves of each mode
abbrev pub generated_line : (seed units paragraphs fast full : ℕ) → List ℕ
generated_line seed units paragraphs fast full =
    line (codes "gen " ++ (decimal seed
    ++ (codes ": units " ++ (decimal units
    ++ (codes " paragraphs " ++ (decimal paragraphs
    ++ (codes " fast " ++ (decimal fast ++ (codes " full " ++ decimal full)))))))))

-- the line of what is made of a seed: how much the document has after all commands, and how many of them saved
abbrev pub generated_counts_line : ℕ → List ℕ
generated_counts_line seed =
    let document = (end_state generator_start (generated seed)).document in
    let commands = commands_run generator_start (generated seed) in
    generated_line seed (item_count document) (mark_count document.main) (save_count false commands)
    (save_count true commands)

-- all commands of the generator are made, on the full save of the blank document and under no guard, and the bytes of
-- the last save are to be put, as those of a script; from 0 there is none, and that full save is put
pub record Generates (seed : ℕ) (answer : Reply) : Type 0 where
  pub accepted : IsAcceptedRun generator_start (generated seed)
  pub image : List ℕ
  pub last : IsLastSave generator_start (generated seed) image
  pub blank : seed ≡ 0 → image ≡ full_save_image blank_document
  pub ends : answer ≡ Made (generated_counts_line seed) image

-- it is put, or the shelf failed; no name is read
abbrev pub EndsGenerated : (seed : ℕ) → (out : List ℕ) → Outcome → Type 0
EndsGenerated seed out outcome = IsShelfFault outcome ⊎ EndsByReply (Some out) (Generates seed) outcome
