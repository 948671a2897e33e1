use Rattle.doc_pictures.proofs.OrderLemmas.{pictures-short}
use Rattle.doc_pictures.proofs.laws.pictures_are_short.Goals as goal

pub returns : goal.returns
returns c = pictures-short
