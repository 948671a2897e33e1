-- The text is that of the units and the columns.
use Rattle.doc_read.proofs.document.document_with.Goals as goal

pub returns : goal.returns
returns c = record {
  texts = c.in_ok-texts.texts;
  texts_are = c.in_ok-texts.ensures;
  document_is = c.document_of.ensures;
}
