use Rattle.fast_save_layout.proofs.FastByRuns.{fast_saves_are_bounded}
use Rattle.fast_save_layout.proofs.laws.fast_saves_are_bounded.Goals as goal

pub returns : goal.returns
returns c = fast_saves_are_bounded
