use Rattle.std.proofs.Common.{◌≡◌, ◌++◌}
use Rattle.doc_join.specs.Styles.{slots_from_second}
use Rattle.doc_join.proofs.sheets.add_second.Given as goal

abbrev pub invariant-loop-istd : goal.invariant-loop-istd
invariant-loop-istd l = record {
  sheet : l.sheet ≡ record {
    head = l.fn.sheet.head;
    styles = l.fn.sheet.styles ++ slots_from_second l.fn.maps.numbers l.second l.istd;
  };
  numbers : l.maps.numbers ≡ l.fn.maps.numbers;
}
