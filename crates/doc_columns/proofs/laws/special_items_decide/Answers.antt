use Rattle.doc_columns.proofs.SpecialLemmas.{sound_by_specials}
use Rattle.doc_columns.proofs.laws.special_items_decide.Goals as goal

pub returns : goal.returns
returns c = sound_by_specials
