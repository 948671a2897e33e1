use Rattle.edit_script.specs.Values.{short_number}
use Rattle.json_doc.proofs.ListLemmas.{FrontGiven}
use Rattle.json_doc.proofs.style_reading.numbers_from.Given as goal

abbrev pub invariant-loop-value : goal.invariant-loop-value
invariant-loop-value l = FrontGiven short_number l.values l.value-index l.numbers
