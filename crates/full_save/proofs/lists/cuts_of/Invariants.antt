use Rattle.full_save.proofs.ListLemmas.{IsAtText, IsCutUpTo}
use Rattle.full_save.proofs.lists.cuts_of.Given as goal

abbrev pub invariant-loop-k : goal.invariant-loop-k
invariant-loop-k l = IsAtText l.texts l.k l.cp × IsCutUpTo l.texts l.k l.cp l.cuts
