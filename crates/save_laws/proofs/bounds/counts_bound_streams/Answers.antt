use Rattle.save_laws.proofs.SizeLemmas.{counts_bound_streams}
use Rattle.save_laws.proofs.bounds.counts_bound_streams.Goals as goal

pub returns : goal.returns
returns c = counts_bound_streams
