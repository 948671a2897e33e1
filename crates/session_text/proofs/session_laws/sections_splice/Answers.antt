use Rattle.session_text.proofs.SectionLemmas.{sections_splice}
use Rattle.session_text.proofs.session_laws.sections_splice.Goals as goal

pub returns : goal.returns
returns c = sections_splice
