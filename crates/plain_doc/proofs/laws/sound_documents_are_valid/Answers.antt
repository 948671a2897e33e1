use Rattle.plain_doc.proofs.LawLemmas.{sound_are_valid}
use Rattle.plain_doc.proofs.laws.sound_documents_are_valid.Goals as goal

pub returns : goal.returns
returns c = sound_are_valid
