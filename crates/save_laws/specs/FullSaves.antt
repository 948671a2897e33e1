-- The full save of a document as a saved text: its layout, which is a function of the document.
use Rattle.std.specs.Prelude.{◌≡◌, ◌^◌, ◌<◌, List, [], ◌∷◌, length, Bool, true, false}
use Rattle.cfb_streams.specs.Contents.{Contents, HasNamed}
use Rattle.cfb_streams.specs.Names.{wd_name, second_table_name}
use Rattle.piece_table.specs.Piece.{one_piece}
use Rattle.doc_model.specs.declared.item.Item.{Item}
use Rattle.doc_model.specs.declared.document.Document.{Document}
use Rattle.doc_model.specs.Collected.{joined_texts}
use Rattle.doc_model.specs.Formed.{IsFormed}
use Rattle.plain_doc.specs.Sound.{IsSound}
use Rattle.full_save.specs.Text.{text_items}
use Rattle.full_save.specs.WordDocument.{text_offset, full_text, wd_stream, table_stream}
use Rattle.doc_read.specs.CarriedParts.{carried_streams}
use Rattle.save_laws.specs.Saves.{SavedText, IsSavedAs}

-- whether there are items
abbrev pub has_items : List Item → Bool
has_items [] = false
has_items (item ∷ items) = true

-- one piece from the place of the text on, and a mark behind the notes and behind the header texts where there are some
abbrev pub full_saved_text : Document → SavedText
full_saved_text document = record {
  pieces = one_piece text_offset (length (text_items document));
  clx = (full_text document).clx;
  stream = record {
    wd = wd_stream document;
    characters = (full_text document).characters;
    paragraphs = (full_text document).paragraphs;
  };
  seds = (full_text document).seds;
  ends = record {
    notes = has_items (joined_texts document.notes);
    heads = has_items (joined_texts document.heads);
  };
}

-- the contents have the two streams of the layout, and what the document carries
pub record HasLayout (document : Document) (contents : Contents) : Type 0 where
  pub wd : HasNamed contents.streams wd_name (wd_stream document)
  pub table : HasNamed contents.streams second_table_name (table_stream document)
  pub clsid : document.carried.clsid ≡ contents.clsid
  pub streams : document.carried.streams ≡ carried_streams contents.streams

-- contents with the layout of a well-formed sound document are a save of it, if its table stream has places of 32 bits
abbrev pub FullSavesAreSaves : Type 0
FullSavesAreSaves =
    (document : Document) (contents : Contents) → IsFormed document → IsSound document →
    length (table_stream document) < 2 ^ 32 → HasLayout document contents →
    IsSavedAs document (full_saved_text document) (table_stream document) contents
