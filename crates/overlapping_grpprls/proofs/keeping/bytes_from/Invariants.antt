use Rattle.std.proofs.Common.{◌≡◌, take}
use Rattle.std.specs.List.{flat_map}
use Rattle.sprm_table.specs.Sprm.{spelling}
use Rattle.overlapping_grpprls.specs.Keeping.{kept_from}
use Rattle.overlapping_grpprls.proofs.keeping.bytes_from.Given as goal

abbrev pub invariant-loop-entry : goal.invariant-loop-entry
invariant-loop-entry l = l.bytes ≡ flat_map spelling (kept_from l.lists.stream.now l.from (take l.entry-index l.kept))
