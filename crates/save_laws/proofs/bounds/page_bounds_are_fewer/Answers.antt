use Rattle.save_laws.proofs.PageBoundLemmas.{page_bounds_are_fewer}
use Rattle.save_laws.proofs.bounds.page_bounds_are_fewer.Goals as goal

pub returns : goal.returns
returns c = page_bounds_are_fewer
