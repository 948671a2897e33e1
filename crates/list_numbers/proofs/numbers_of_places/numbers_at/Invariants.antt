use Rattle.list_numbers.proofs.NumberedLemmas.{HasNumbered}
use Rattle.list_numbers.proofs.numbers_of_places.numbers_at.Given as goal

abbrev pub invariant-loop-i : goal.invariant-loop-i
invariant-loop-i l = HasNumbered l.lists l.places l.numbers l.counts.items l.i
