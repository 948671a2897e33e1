use Rattle.doc_meaning.proofs.FilledLemmas.{filled_is_meant}
use Rattle.doc_meaning.proofs.laws.filled_is_meant.Goals as goal

pub returns : goal.returns
returns c = filled_is_meant
