use Rattle.std.proofs.Common.{◌≡◌, map, take}
use Rattle.run_lists.specs.Spread.{expanded}
use Rattle.doc_join.specs.Settings.{renumbered_chp}
use Rattle.doc_join.proofs.kept_maps.KeptMaps.chps.Given as goal

abbrev pub invariant-loop-run : goal.invariant-loop-run
invariant-loop-run l = record {
  made : l.made ≡ map (renumbered_chp l.fn.self.numbers) (expanded (take l.run-index l.runs));
  numbers : l.self.numbers ≡ l.fn.self.numbers;
}
