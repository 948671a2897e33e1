use Rattle.session_text.proofs.MarkLemmas.{notes_splice}
use Rattle.session_text.proofs.session_laws.notes_splice.Goals as goal

pub returns : goal.returns
returns c = notes_splice
