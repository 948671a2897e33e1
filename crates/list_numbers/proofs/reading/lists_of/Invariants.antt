use Rattle.list_numbers.proofs.ListLemmas.{HasReadLists}
use Rattle.list_numbers.proofs.reading.lists_of.Given as goal

abbrev pub invariant-loop-k : goal.invariant-loop-k
invariant-loop-k l = HasReadLists l.lst l.levels l.lists l.at l.k
