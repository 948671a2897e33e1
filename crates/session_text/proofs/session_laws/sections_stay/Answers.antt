use Rattle.session_text.proofs.SectionLemmas.{sections_stay}
use Rattle.session_text.proofs.session_laws.sections_stay.Goals as goal

pub returns : goal.returns
returns c = sections_stay
