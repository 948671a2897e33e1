use Rattle.std.proofs.Common.{◌≡◌, map, take}
use Rattle.run_lists.specs.Spread.{expanded}
use Rattle.doc_join.specs.JoinedColumns.{renumbered_attached}
use Rattle.doc_join.proofs.kept_maps.KeptMaps.attachments.Given as goal

abbrev pub invariant-loop-run : goal.invariant-loop-run
invariant-loop-run l = l.made ≡ map (renumbered_attached l.self.numbers) (expanded (take l.run-index l.runs))
