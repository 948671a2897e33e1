use Rattle.std.proofs.Common.{◌≡◌, drop, length, take, min}
use Rattle.piece_table.specs.Piece.{total_length}
use Rattle.doc_columns.specs.Columns.{items_of}
use Rattle.doc_read.specs.Reading.{ArePassed, ArePieceReaders, ArePlacedItems, HaveValidPages, mark_lists, text_view}
use Rattle.doc_read.proofs.columns.columns_of_pieces.Given as goal

-- the columns of the first pieces
abbrev pub invariant-loop-i : goal.invariant-loop-i
invariant-loop-i l = record {
  len : l.cp ≡ min (total_length (take l.i l.pieces.pieces)) (length l.text.units.now);
  right : HaveValidPages (text_view l.text) 0 l.cp;
  chps : length l.read.chps ≡ l.cp;
  attachments : length l.read.attachments ≡ l.cp;
  placed : ArePlacedItems (text_view l.text) l.pieces.pieces (items_of l.text.units.now l.read.chps l.read.attachments);
  rest : l.rest ≡ drop l.cp l.text.places;
  readers : ArePieceReaders (text_view l.text) l.readers.items;
  passed : ArePassed (mark_lists l.text.marks.now) l.passed l.cp;
}
