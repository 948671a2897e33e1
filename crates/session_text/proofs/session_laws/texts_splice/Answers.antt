use Rattle.session_text.proofs.MarkLemmas.{texts_splice}
use Rattle.session_text.proofs.session_laws.texts_splice.Goals as goal

pub returns : goal.returns
returns c = texts_splice
