use Rattle.json_doc.specs.Pieces.{text_json}
use Rattle.json_doc.proofs.WrittenLemmas.{ArePlaced}
use Rattle.json_doc.proofs.pieces.write_texts.Given as goal

abbrev pub invariant-loop-i : goal.invariant-loop-i
invariant-loop-i l = ArePlaced text_json l.texts l.i l.fn.out l.out
