-- What four of the six values of a document are read as.
use Rattle.std.specs.Prelude.{◌≡◌, ◌≢◌, length, Some, Ok}
use Rattle.serde_json.specs.Data.{Data}
use Rattle.doc_model.specs.declared.document.Document.{Document}
use Rattle.doc_model.specs.Document.{IsFormedText, AreFormedTexts}
use Rattle.json_doc.specs.declared.reading.ReadTexts.{ReadTexts}
use Rattle.json_doc.specs.DocumentReading.{AreMarks, SixValues, document_values}
use Rattle.json_doc.specs.Documents.{bookmarks_json, json_value}
use Rattle.json_doc.specs.Pieces.{text_json, texts_json}
use Rattle.json_doc.specs.ReadValues.{ReadsValue}
use Rattle.json_doc.specs.Reading.{IsWholeDocument}

-- each of the four is read as it should be
pub record AreTextsOfValues (six : SixValues) (texts : ReadTexts) : Type 0 where
  pub main : ReadsValue text_json IsFormedText six.main (Ok texts.main)
  pub bookmarks : ReadsValue bookmarks_json (AreMarks (length texts.main)) six.bookmarks (Ok texts.bookmarks)
  pub notes : ReadsValue texts_json AreFormedTexts six.notes (Ok texts.notes)
  pub heads : ReadsValue texts_json AreFormedTexts six.heads (Ok texts.heads)

-- no whole document has a value with these six
abbrev pub HasNoTexts : SixValues → Type 0
HasNoTexts six =
    (value : Data) → document_values value ≡ Some six → (document : Document) → IsWholeDocument document →
    value ≢ json_value document
