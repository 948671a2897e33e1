use Rattle.doc_read.proofs.ExistDocument.{files_hold}
use Rattle.doc_read.proofs.laws.files_hold_documents.Goals as goal

pub returns : goal.returns
returns c = files_hold
