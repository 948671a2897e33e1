use Rattle.std.proofs.Common.{ℕ, ◌<◌, slice_index}
use Rattle.cfb_directory.specs.Directory.{HaveOneName}
use Rattle.cfb_directory.specs.Reach.{entry_place}
use Rattle.cfb_directory.proofs.names.is_name_taken.Given as goal

abbrev pub invariant-loop-entry : goal.invariant-loop-entry
invariant-loop-entry l =
    (i : ℕ) → i < l.entry-index → entry_place l.directory (slice_index l.order i) < l.at → ¬ HaveOneName l.file
    (entry_place l.directory (slice_index l.order i)) l.at
