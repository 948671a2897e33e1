-- What a save behind an old stream is made of.
use Rattle.std.specs.Prelude.{ℕ, List, map, Option}
use Rattle.cfb_streams.specs.Contents.{Contents}
use Rattle.fib_form.specs.FibFields.{FibFields}
use Rattle.piece_table.specs.Piece.{TextPiece}
use Rattle.doc_model.specs.declared.item.Item.{Item}
use Rattle.doc_model.specs.declared.document.Document.{Document}
use Rattle.save_laws.specs.Places.{given_of}
use Rattle.save_laws.specs.Plans.{Plan}
use Rattle.save_laws.specs.Slots.{StoryEnds}
use Rattle.save_laws.specs.Ends.{ends_of}
use Rattle.fast_save_layout.specs.declared.saving.SavedFile.{SavedFile}
use Rattle.fast_save_layout.specs.declared.saving.EditedText.{EditedText}

-- the file that is there, its FIB and its streams; the document; the pieces of its text, and whether marks are
-- behind stories; the items whose units are added from a byte on; and for each section the place of its properties,
-- where
-- they are in the old stream
pub record FastSave : Type 0 where
  pub file : List ℕ
  pub fib : FibFields
  pub contents : Contents
  pub document : Document
  pub pieces : List TextPiece
  pub ends : StoryEnds
  pub base : ℕ
  pub added : List Item
  pub places : List (Option ℕ)

abbrev pub fast_save_of : SavedFile → Document → EditedText → FastSave
fast_save_of old document text = record {
  file = old.bytes.now;
  fib = old.fib.now;
  contents = old.container.now;
  document = document;
  pieces = text.pieces.now.pieces;
  ends = ends_of text.ends;
  base = text.base;
  added = text.added.now;
  places = text.sections.now;
}

-- what the added units are to be given
abbrev pub plan_of : FastSave → Plan
plan_of save = record { base = save.base; added = map given_of save.added }
