use Rattle.session_text.proofs.SectionLemmas.{one_section_is_set}
use Rattle.session_text.proofs.session_laws.one_section_is_set.Goals as goal

pub returns : goal.returns
returns c = one_section_is_set
