-- No row of a mended document breaks rule 63.
use Rattle.std.specs.Prelude.{List}
use Rattle.doc_bits.specs.Rules.{Nowhere}
use Rattle.doc_model.specs.declared.document.Document.{Document}
use Rattle.plain_doc.specs.Rows.{BreaksRows}
use Rattle.plain_doc.specs.RulesOfTexts.{InTexts}
use Rattle.doc_losses.specs.References.{Names}
use Rattle.doc_mends.specs.declared.mends.Mend.{Mend}
use Rattle.doc_mends.specs.Mending.{IsMended}

abbrev pub MendedRowsAreWhole : Type 0
MendedRowsAreWhole =
    (names : Names) (meant mended : Document) (mends : List Mend) → IsMended names meant mended mends →
    Nowhere (InTexts mended (λ part text. BreaksRows text))
