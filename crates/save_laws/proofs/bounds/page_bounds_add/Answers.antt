use Rattle.save_laws.proofs.PageBoundLemmas.{page_bounds_add}
use Rattle.save_laws.proofs.bounds.page_bounds_add.Goals as goal

pub returns : goal.returns
returns c = page_bounds_add
