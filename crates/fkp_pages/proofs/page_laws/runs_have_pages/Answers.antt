use Rattle.fkp_pages.proofs.PackedLemmas.{runs_have_pages}
use Rattle.fkp_pages.proofs.page_laws.runs_have_pages.Goals as goal

pub returns : goal.returns
returns c = runs_have_pages
