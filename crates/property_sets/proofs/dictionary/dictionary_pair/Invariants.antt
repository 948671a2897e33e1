use Rattle.std.proofs.Common.{◌≡◌}
use Rattle.std.specs.Prelude.{find}
use Rattle.property_sets.specs.Sets.{pairs_of}
use Rattle.property_sets.proofs.WalkLemmas.{names_dictionary, pairs_from}
use Rattle.property_sets.proofs.dictionary.dictionary_pair.Given as goal

-- no pair so far names a dictionary
abbrev pub invariant-loop-i : goal.invariant-loop-i
invariant-loop-i l = find names_dictionary (pairs_of l.set) ≡ find names_dictionary (pairs_from l.set l.i)
