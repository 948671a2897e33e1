use Rattle.doc_mends.proofs.SoundLemmas.{no_mends}
use Rattle.doc_mends.proofs.laws.sound_has_no_mends.Goals as goal

pub returns : goal.returns
returns c = no_mends
