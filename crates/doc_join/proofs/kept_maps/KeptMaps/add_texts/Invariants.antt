use Rattle.std.proofs.Common.{◌≡◌, ◌++◌}
use Rattle.std.specs.Prelude.{slice_range}
use Rattle.doc_join.specs.Texts.{renumbered_texts}
use Rattle.doc_join.proofs.kept_maps.KeptMaps.add_texts.Given as goal

abbrev pub invariant-loop-i : goal.invariant-loop-i
invariant-loop-i l = record {
  made : l.made ≡ l.fn.made ++ renumbered_texts l.fn.self.numbers (slice_range l.texts l.from l.i);
  numbers : l.self.numbers ≡ l.fn.self.numbers;
}
