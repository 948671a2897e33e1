use Rattle.std.proofs.Common.{◌∙◌, List, ap}
use Rattle.doc_model.specs.declared.item.Item.{Item}
use Rattle.doc_model.specs.Stretches.{goes_over}
use Rattle.json_doc.specs.Pieces.{is_one_piece}
use Rattle.json_doc.specs.PieceReading.{piece_items}
use Rattle.json_doc.proofs.TextReadLemmas.{over_end}
use Rattle.json_doc.proofs.piece_reading.put_piece.Goals as goal

pub returns-clause-ends : goal.returns-clause-ends
returns-clause-ends c = λ next units.
    ap (λ (xs : List Item). goes_over is_one_piece xs (piece_items next)) c.in_ok-text.ensures
    ∙ over_end c.args.text.text c.args.piece next c.requires.formed.0.some units
