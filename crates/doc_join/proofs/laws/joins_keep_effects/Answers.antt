use Rattle.doc_join.proofs.EffectLemmas.{effects_kept}
use Rattle.doc_join.proofs.laws.joins_keep_effects.Goals as goal

pub returns : goal.returns
returns c = effects_kept
