use Rattle.fkp_pages.proofs.WholePages.{run_fits_alone}
use Rattle.fkp_pages.proofs.page_laws.run_fits_alone.Goals as goal

pub returns : goal.returns
returns c = run_fits_alone
