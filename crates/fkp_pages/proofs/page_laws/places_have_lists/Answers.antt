use Rattle.fkp_pages.proofs.FoundPages.{places_have_lists}
use Rattle.fkp_pages.proofs.page_laws.places_have_lists.Goals as goal

pub returns : goal.returns
returns c = places_have_lists
