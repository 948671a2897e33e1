use Rattle.fast_save_layout.proofs.ShortLemmas.{counted_saves_fit}
use Rattle.fast_save_layout.proofs.laws.counted_saves_fit.Goals as goal

pub returns : goal.returns
returns c = counted_saves_fit
