use Rattle.fkp_pages.proofs.WholePages.{packing_is_one}
use Rattle.fkp_pages.proofs.page_laws.packing_is_one.Goals as goal

pub returns : goal.returns
returns c = packing_is_one
