use Rattle.doc_fit.proofs.UnitLemmas.{fit_units_stay}
use Rattle.doc_fit.proofs.laws.fit_units_stay.Goals as goal

pub returns : goal.returns
returns c = fit_units_stay
