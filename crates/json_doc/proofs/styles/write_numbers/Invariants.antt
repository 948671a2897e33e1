use Rattle.json_values.specs.Rows.{number_json}
use Rattle.json_doc.proofs.WrittenLemmas.{ArePlaced}
use Rattle.json_doc.proofs.styles.write_numbers.Given as goal

abbrev pub invariant-loop-i : goal.invariant-loop-i
invariant-loop-i l = ArePlaced number_json l.numbers l.i l.fn.out l.out
