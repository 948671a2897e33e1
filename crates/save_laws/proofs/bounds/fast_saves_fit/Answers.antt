use Rattle.save_laws.proofs.FileLemmas.{fast_saves_fit}
use Rattle.save_laws.proofs.bounds.fast_saves_fit.Goals as goal

pub returns : goal.returns
returns c = fast_saves_fit
