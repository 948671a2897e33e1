use Rattle.doc_meaning.proofs.MeaningLemmas.{held_is_meant}
use Rattle.doc_meaning.proofs.laws.held_is_meant.Goals as goal

pub returns : goal.returns
returns c = held_is_meant
