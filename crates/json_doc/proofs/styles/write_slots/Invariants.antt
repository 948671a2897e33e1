use Rattle.json_doc.specs.Styles.{slot_json}
use Rattle.json_doc.proofs.WrittenLemmas.{ArePlaced}
use Rattle.json_doc.proofs.styles.write_slots.Given as goal

abbrev pub invariant-loop-i : goal.invariant-loop-i
invariant-loop-i l = ArePlaced slot_json l.sheet.styles l.i l.fn.out l.out
