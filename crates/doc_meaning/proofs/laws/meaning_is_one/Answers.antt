use Rattle.doc_meaning.proofs.MeaningLemmas.{meaning_is_one}
use Rattle.doc_meaning.proofs.laws.meaning_is_one.Goals as goal

pub returns : goal.returns
returns c = meaning_is_one
