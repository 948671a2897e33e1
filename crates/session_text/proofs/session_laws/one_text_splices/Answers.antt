use Rattle.session_text.proofs.MarkLemmas.{one_text_splices}
use Rattle.session_text.proofs.session_laws.one_text_splices.Goals as goal

pub returns : goal.returns
returns c = one_text_splices
