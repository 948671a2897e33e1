use Rattle.edit_generator.proofs.FullSizeLemmas.{small_saves}
use Rattle.edit_generator.proofs.laws.small_documents_have_small_saves.Goals as goal

pub returns : goal.returns
returns c = small_saves
