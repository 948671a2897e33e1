-- What the definitions imply.
use Rattle.std.specs.Prelude.{◌≡◌, ℕ, List}
use Rattle.doc_model.specs.declared.document.Document.{Document}
use Rattle.doc_show.specs.Properties.{ArePropertyLines}

-- an item of a document has one text of property lines
abbrev pub PropertyLinesAreOne : Type 0
PropertyLinesAreOne =
    (document : Document) (pos : ℕ) (one other : List ℕ) →
    ArePropertyLines document pos one → ArePropertyLines document pos other → one ≡ other
