use Rattle.cfb_directory.proofs.SortedLemmas.{NamesFront}
use Rattle.cfb_directory.proofs.names.are_names_distinct.Given as goal

abbrev pub invariant-loop-entry : goal.invariant-loop-entry
invariant-loop-entry l = NamesFront l.file l.directory l.order l.entry-index l.sorted.items
