use Rattle.fkp_pages.proofs.FoundLemmas.{lists_have_properties}
use Rattle.fkp_pages.proofs.page_laws.lists_have_properties.Goals as goal

pub returns : goal.returns
returns c = lists_have_properties
