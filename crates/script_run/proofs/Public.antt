-- What other crates may cite of these proofs.

-- One command more, and where runs end.
pub use Rattle.script_run.proofs.EndLemmas.{ends_once}
-- A run of the generator, command by command: each is made, and how many save.
pub use Rattle.script_run.proofs.GeneratedRunLemmas.{ends_with_save, last_mode}
