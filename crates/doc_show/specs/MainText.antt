-- The main text of a document as it is shown.
use Rattle.std.specs.Prelude.{ℕ, true, List, map}
use Rattle.text_codes.specs.Shown.{shown_text}
use Rattle.doc_model.specs.declared.document.Document.{Document}

-- its units, with a line feed for each paragraph mark
abbrev pub main_text_of : Document → List ℕ
main_text_of document = shown_text true (map (λ item. item.unit) document.main)
