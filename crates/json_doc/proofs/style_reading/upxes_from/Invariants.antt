use Rattle.edit_script.specs.Values.{bytes_of}
use Rattle.json_doc.proofs.ListLemmas.{FrontGiven}
use Rattle.json_doc.proofs.style_reading.upxes_from.Given as goal

abbrev pub invariant-loop-value : goal.invariant-loop-value
invariant-loop-value l = FrontGiven bytes_of l.values l.value-index l.upxes
