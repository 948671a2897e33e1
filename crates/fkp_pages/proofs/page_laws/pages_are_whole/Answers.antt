use Rattle.fkp_pages.proofs.WholePages.{pages_are_whole}
use Rattle.fkp_pages.proofs.page_laws.pages_are_whole.Goals as goal

pub returns : goal.returns
returns c = pages_are_whole
