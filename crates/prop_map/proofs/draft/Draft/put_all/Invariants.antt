use Rattle.std.proofs.Common.{length}
use Rattle.std.specs.FinMap.{entries}
use Rattle.prop_map.proofs.ChangeLemmas.{HasPutUpTo}
use Rattle.prop_map.proofs.draft.Draft.put_all.Given as goal

abbrev pub invariant-loop-code : goal.invariant-loop-code
invariant-loop-code l = HasPutUpTo (entries l.top) l.initial.self l.left l.self

abbrev pub decreases-loop-code : goal.decreases-loop-code
decreases-loop-code l = length l.left
