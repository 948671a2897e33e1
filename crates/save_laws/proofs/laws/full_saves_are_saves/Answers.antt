use Rattle.save_laws.proofs.FullSavedLemmas.{full_saves_are_saves}
use Rattle.save_laws.proofs.laws.full_saves_are_saves.Goals as goal

pub returns : goal.returns
returns c = full_saves_are_saves
