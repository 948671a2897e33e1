use Rattle.std.proofs.Common.{length}
use Rattle.std.specs.FinMap.{entries}
use Rattle.char_formats.proofs.LaidLemmas.{HasLaid}
use Rattle.char_formats.proofs.change.Change.lay_all.Given as goal

abbrev pub invariant-loop-code : goal.invariant-loop-code
invariant-loop-code l = HasLaid (entries l.map) l.left l.initial.self l.self

abbrev pub decreases-loop-code : goal.decreases-loop-code
decreases-loop-code l = length l.left
