use Rattle.save_laws.proofs.FastLemmas.{fast_saves_are_saves}
use Rattle.save_laws.proofs.laws.fast_saves_are_saves.Goals as goal

pub returns : goal.returns
returns c = fast_saves_are_saves
