use Rattle.json_values.specs.Digits.{bytes_json}
use Rattle.json_doc.proofs.WrittenLemmas.{ArePlaced}
use Rattle.json_doc.proofs.styles.write_upxes.Given as goal

abbrev pub invariant-loop-i : goal.invariant-loop-i
invariant-loop-i l = ArePlaced bytes_json l.upxes l.i l.fn.out l.out
