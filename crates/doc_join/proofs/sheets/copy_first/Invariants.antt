use Rattle.std.proofs.Common.{◌≡◌, map, take}
use Rattle.doc_join.specs.Styles.{slot_from_first}
use Rattle.doc_join.proofs.sheets.copy_first.Given as goal

abbrev pub invariant-loop-istd : goal.invariant-loop-istd
invariant-loop-istd l = record {
  sheet : l.sheet
      ≡ record { head = l.first.head; styles = map (slot_from_first l.fn.maps.numbers) (take l.istd l.first.styles) };
  numbers : l.maps.numbers ≡ l.fn.maps.numbers;
}
