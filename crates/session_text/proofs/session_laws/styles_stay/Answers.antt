use Rattle.session_text.proofs.SectionLemmas.{styles_stay}
use Rattle.session_text.proofs.session_laws.styles_stay.Goals as goal

pub returns : goal.returns
returns c = styles_stay
