use Rattle.doc_view.proofs.OnceLemmas.{once}
use Rattle.doc_view.proofs.laws.each_item_is_shown_once.Goals as goal

pub returns : goal.returns
returns c = once
