-- Full saves by the runs of their pages.
use Rattle.std.specs.Prelude.{◌^◌, ◌<◌, length}
use Rattle.piece_table.specs.Piece.{flat_pieces}
use Rattle.doc_model.specs.declared.document.Document.{Document}
use Rattle.doc_model.specs.Formed.{IsFormed}
use Rattle.plain_doc.specs.Sound.{IsSound}
use Rattle.full_save.specs.WordDocument.{table_stream}
use Rattle.save_laws.specs.ByRuns.{AreBounded, text_ends}
use Rattle.save_laws.specs.FullSaves.{full_saved_text}
use Rattle.save_laws.specs.Slots.{document_slots}

-- each unit of the full save of a well-formed sound document is bounded, if its table stream has places of 32 bits
abbrev pub FullSavesAreBounded : Type 0
FullSavesAreBounded =
    (document : Document) → IsFormed document → IsSound document → length (table_stream document) < 2 ^ 32 →
    let saved = full_saved_text document in
    AreBounded saved.stream (flat_pieces saved.pieces) (text_ends (document_slots document saved.ends))
