use Rattle.json_doc.specs.CarriedParts.{stream_json}
use Rattle.json_doc.proofs.WrittenLemmas.{ArePlaced}
use Rattle.json_doc.proofs.carried_parts.write_streams.Given as goal

abbrev pub invariant-loop-i : goal.invariant-loop-i
invariant-loop-i l = ArePlaced stream_json l.streams l.i l.fn.out l.out
