use Rattle.document_bookmarks.proofs.MoveLemmas.{moves_form}
use Rattle.document_bookmarks.proofs.laws.moves_keep_form.Goals as goal

pub returns : goal.returns
returns c = moves_form
