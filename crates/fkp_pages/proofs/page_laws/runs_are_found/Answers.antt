use Rattle.fkp_pages.proofs.FoundPages.{runs_are_found}
use Rattle.fkp_pages.proofs.page_laws.runs_are_found.Goals as goal

pub returns : goal.returns
returns c = runs_are_found
