use Rattle.std.proofs.Common.{map, take}
use Rattle.serde_json.specs.View.{view}
use Rattle.json_doc.specs.PieceReading.{EndsByPiece}
use Rattle.json_doc.proofs.CutTextLemmas.{AreTaken}
use Rattle.json_doc.proofs.piece_reading.items_in.Given as goal

abbrev pub invariant-loop-value : goal.invariant-loop-value
invariant-loop-value l = record {
  taken : AreTaken (map view (take l.value-index l.values)) l.grown.text;
  ends : EndsByPiece l.grown.text l.grown.last;
}
