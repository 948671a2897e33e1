use Rattle.doc_read.proofs.OneDocument.{document_one}
use Rattle.doc_read.proofs.laws.document_is_one.Goals as goal

pub returns : goal.returns
returns c = document_one
