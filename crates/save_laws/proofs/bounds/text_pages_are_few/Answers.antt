use Rattle.save_laws.proofs.PageBoundLemmas.{text_pages_are_few}
use Rattle.save_laws.proofs.bounds.text_pages_are_few.Goals as goal

pub returns : goal.returns
returns c = text_pages_are_few
