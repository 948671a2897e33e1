-- What has been so far when commands are run.
use Rattle.std.specs.Prelude.{ℕ, ◌+◌, ◌*◌, Bool, true, false, List, length, Option, Some, None}
use Rattle.edit_guards.specs.Policies.{Policy, policies_after}
use Rattle.cfb_sectors.specs.Header.{sector_count}
use Rattle.doc_model.specs.declared.document.Document.{Document}
use Rattle.full_save.specs.WordDocument.{full_fib, table_stream}
use Rattle.full_save.specs.Layout.{full_save_image}
use Rattle.edit_script.specs.declared.commands.Command.{Command}
use Rattle.edit_ops.specs.Edits.{document_after}
use Rattle.edit_ops.specs.EditFacts.{edit_facts}
use Rattle.edit_ops.specs.Runs.{reckoned_runs}
use Rattle.fast_save.specs.declared.ledgers.Counts.{Counts}
use Rattle.fast_save.specs.Ledgers.{after_edit, after_fast, after_full, sections_set, sector_bound}
use Rattle.fast_save.specs.Session.{SessionView, bin_length}
use Rattle.script_run.specs.Saves.{save_mode}

-- what has been since the last full save: fast saves, units that were added, and runs and sections that are reckoned
pub record Since : Type 0 where
  pub fast_saves : ℕ
  pub units : ℕ
  pub runs : ℕ
  pub sections : ℕ

abbrev pub nothing_since : Since
nothing_since = record { fast_saves = 0; units = 0; runs = 0; sections = 0 }

-- what the commands so far have come to: the document now, what the guards allow, the fast saves in a row that the file
-- counts, the ledgers, the document that the file holds, the file that was given or last saved in full, and what has
-- been since
pub record RunState : Type 0 where
  pub document : Document
  pub policies : List Policy
  pub quick_saves : ℕ
  pub counts : Counts
  pub held : Document
  pub file : List ℕ
  pub since : Since

-- before the first command, on a session to which nothing was added
abbrev pub starting_state : SessionView → List Policy → RunState
starting_state session policies = record {
  document = session.document;
  policies = policies;
  quick_saves = session.quick_saves;
  counts = session.counts;
  held = session.document;
  file = session.bytes;
  since = nothing_since;
}

-- the ledgers after a full save of the document
unfoldable pub counts_in_full : Document → Counts
counts_in_full document = after_full (sector_count (full_save_image document)) (bin_length (full_fib document))

-- a session on the full save of a document
abbrev pub session_in_full : Document → SessionView
session_in_full document = record {
  bytes = full_save_image document;
  document = document;
  counts = counts_in_full document;
  quick_saves = 0;
}

-- the sectors that are reckoned for a fast save now
unfoldable pub fast_sectors : RunState → ℕ
fast_sectors state = sector_bound state.counts (length (table_stream state.document))

-- after an edit that adds so many units
abbrev pub since_edit : Command → ℕ → Since → Since
since_edit command units since = record {
  fast_saves = since.fast_saves;
  units = since.units + units;
  runs = since.runs + reckoned_runs command;
  sections = since.sections + sections_set command;
}

-- after an edit that is accepted and granted
abbrev pub edited : RunState → Command → RunState
edited state command = record {
  document = document_after state.document command;
  policies = policies_after state.policies (edit_facts state.document command);
  quick_saves = state.quick_saves;
  counts = after_edit command (edit_facts state.document command).units_in state.counts;
  held = state.held;
  file = state.file;
  since = since_edit command (edit_facts state.document command).units_in state.since;
}

-- after a full save: all is as at a start on it
abbrev pub saved_in_full : RunState → RunState
saved_in_full state = starting_state (session_in_full state.document) state.policies

-- after a fast save
abbrev pub saved_fast : RunState → RunState
saved_fast state = record {
  document = state.document;
  policies = state.policies;
  quick_saves = state.quick_saves + 1;
  counts = after_fast (fast_sectors state) state.counts;
  held = state.document;
  file = state.file;
  since = record {
    fast_saves = state.since.fast_saves + 1;
    units = state.since.units;
    runs = state.since.runs;
    sections = state.since.sections;
  };
}

abbrev pub state_by : Option Bool → RunState → Command → RunState
state_by None state command = edited state command
state_by (Some true) state command = saved_in_full state
state_by (Some false) state command = saved_fast state

-- after one command more that passes
abbrev pub state_after : RunState → Command → RunState
state_after state command = state_by (save_mode command) state command

-- the bytes by which WordDocument may have grown since the last full save
abbrev pub most_grown : Since → ℕ
most_grown since = 2048 * since.fast_saves + (2 * since.units + 512 * since.runs + 512 * since.sections)
