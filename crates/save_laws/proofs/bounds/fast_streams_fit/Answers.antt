use Rattle.save_laws.proofs.FileLemmas.{fast_streams_fit}
use Rattle.save_laws.proofs.bounds.fast_streams_fit.Goals as goal

pub returns : goal.returns
returns c = fast_streams_fit
