use Rattle.fast_save.proofs.RoomLemmas.{edits_add_little}
use Rattle.fast_save.proofs.laws.edits_add_little.Goals as goal

pub returns : goal.returns
returns c = edits_add_little
