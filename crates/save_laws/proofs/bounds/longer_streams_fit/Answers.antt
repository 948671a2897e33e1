use Rattle.save_laws.proofs.SectorLemmas.{longer_streams_fit}
use Rattle.save_laws.proofs.bounds.longer_streams_fit.Goals as goal

pub returns : goal.returns
returns c = longer_streams_fit
