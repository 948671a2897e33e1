use Rattle.list_numbers.proofs.LabelLemmas.{HasValues}
use Rattle.list_numbers.proofs.labels.values_at.Given as goal

abbrev pub invariant-loop-i : goal.invariant-loop-i
invariant-loop-i l = HasValues l.fonts l.lists l.places l.values l.made l.counts.items l.i
