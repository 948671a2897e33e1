use Rattle.fast_save.proofs.FullFileLemmas.{full_saves_are_read}
use Rattle.fast_save.proofs.laws.full_saves_are_read.Goals as goal

pub returns : goal.returns
returns c = full_saves_are_read
