use Rattle.prop_map.proofs.BlockLemmas.{HasAppended}
use Rattle.prop_map.proofs.draft.Draft.into_map.Given as goal

abbrev pub invariant-loop-code : goal.invariant-loop-code
invariant-loop-code l = HasAppended l.initial.code-iterator l.code-iterator l.bytes
