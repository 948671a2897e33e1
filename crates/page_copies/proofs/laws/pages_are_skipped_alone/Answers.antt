use Rattle.page_copies.proofs.OneLemmas.{pages_one}
use Rattle.page_copies.proofs.laws.pages_are_skipped_alone.Goals as goal

pub returns : goal.returns
returns c = pages_one
