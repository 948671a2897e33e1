use Rattle.doc_meaning.proofs.MeaningLemmas.{meant_is_held}
use Rattle.doc_meaning.proofs.laws.meant_is_held.Goals as goal

pub returns : goal.returns
returns c = meant_is_held
