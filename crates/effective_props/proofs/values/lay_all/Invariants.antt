use Rattle.std.proofs.Common.{length}
use Rattle.std.specs.FinMap.{entries}
use Rattle.effective_props.proofs.ValueLemmas.{HasLaidUpTo}
use Rattle.effective_props.proofs.values.lay_all.Given as goal

abbrev pub invariant-loop-code : goal.invariant-loop-code
invariant-loop-code l = HasLaidUpTo (entries l.layer) l.initial.values l.left l.values

abbrev pub decreases-loop-code : goal.decreases-loop-code
decreases-loop-code l = length l.left
