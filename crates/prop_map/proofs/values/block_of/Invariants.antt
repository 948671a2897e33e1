use Rattle.prop_map.proofs.ValueLemmas.{HasValueBytes}
use Rattle.prop_map.proofs.values.block_of.Given as goal

abbrev pub invariant-loop-set : goal.invariant-loop-set
invariant-loop-set l = HasValueBytes l.values l.set-index l.bytes
