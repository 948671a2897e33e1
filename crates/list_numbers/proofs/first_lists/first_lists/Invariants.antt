use Rattle.list_numbers.proofs.FirstLemmas.{AreFirstFrom}
use Rattle.list_numbers.proofs.first_lists.first_lists.Given as goal

abbrev pub invariant-loop-k : goal.invariant-loop-k
invariant-loop-k l = AreFirstFrom l.lists l.firsts l.k

abbrev pub decreases-loop-k : goal.decreases-loop-k
decreases-loop-k l = l.k
