use Rattle.page_copies.proofs.ListLemmas.{list_before}
use Rattle.page_copies.proofs.laws.skipped_pages_keep_lists.Goals as goal

pub returns : goal.returns
returns c = list_before
