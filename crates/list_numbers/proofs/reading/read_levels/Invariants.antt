use Rattle.list_numbers.proofs.ListLemmas.{HasReadLevels}
use Rattle.list_numbers.proofs.reading.read_levels.Given as goal

abbrev pub invariant-loop-j : goal.invariant-loop-j
invariant-loop-j l = HasReadLevels l.bytes l.fn.at l.levels l.at l._j
