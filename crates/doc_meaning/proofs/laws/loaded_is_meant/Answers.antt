use Rattle.doc_meaning.proofs.LoadedLemmas.{loaded_is_meant}
use Rattle.doc_meaning.proofs.laws.loaded_is_meant.Goals as goal

pub returns : goal.returns
returns c = loaded_is_meant
