use Rattle.doc_pictures.proofs.OrderLemmas.{pictures-one}
use Rattle.doc_pictures.proofs.laws.pictures_are_one.Goals as goal

pub returns : goal.returns
returns c = pictures-one
