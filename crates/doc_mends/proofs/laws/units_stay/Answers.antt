use Rattle.doc_mends.proofs.UnitsStayLemmas.{units_stay}
use Rattle.doc_mends.proofs.laws.units_stay.Goals as goal

pub returns : goal.returns
returns c = units_stay
