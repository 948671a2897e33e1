use Rattle.session_text.proofs.MarkLemmas.{heads_splice}
use Rattle.session_text.proofs.session_laws.heads_splice.Goals as goal

pub returns : goal.returns
returns c = heads_splice
