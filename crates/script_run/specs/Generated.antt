-- The commands of the generator, each read off the document so far and the fast saves in a row.
use Rattle.std.specs.Prelude.{ℕ, nat_lt, if◌then◌else◌, length, Some, None}
use Rattle.edit_generator.specs.Generated.{generated_count, generated_command}
use Rattle.script_run.specs.Commands.{Commands}

-- the commands from a seed
abbrev pub generated : ℕ → Commands
generated seed = record {
  count = generated_count seed;
  at = λ i document quick_saves.
      if nat_lt i (generated_count seed) then Some (generated_command seed i (length document.main) quick_saves)
      else None;
}
