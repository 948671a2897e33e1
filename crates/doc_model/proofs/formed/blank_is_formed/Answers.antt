-- Each part of the blank document is well formed.
use Rattle.doc_model.proofs.BlankLemmas.{blank_document_is_formed}
use Rattle.doc_model.proofs.formed.blank_is_formed.Goals as goal

pub returns : goal.returns
returns c = blank_document_is_formed
