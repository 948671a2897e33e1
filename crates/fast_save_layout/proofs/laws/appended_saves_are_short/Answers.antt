use Rattle.fast_save_layout.proofs.ShortLemmas.{appended_saves_are_short}
use Rattle.fast_save_layout.proofs.laws.appended_saves_are_short.Goals as goal

pub returns : goal.returns
returns c = appended_saves_are_short
