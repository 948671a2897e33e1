use Rattle.document_bookmarks.proofs.NameLemmas.{differ_exactly}
use Rattle.document_bookmarks.proofs.laws.names_differ.Goals as goal

pub returns : goal.returns
returns c = differ_exactly
