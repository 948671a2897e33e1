use Rattle.std.proofs.Common.{map, take}
use Rattle.serde_json.specs.View.{view}
use Rattle.doc_model.specs.Document.{IsFormedText}
use Rattle.json_doc.specs.Pieces.{text_json}
use Rattle.json_doc.proofs.ReadLemmas.{AreRead}
use Rattle.json_doc.proofs.piece_reading.all_texts.Given as goal

abbrev pub invariant-loop-value : goal.invariant-loop-value
invariant-loop-value l = AreRead text_json IsFormedText (map view (take l.value-index l.values)) l.texts
