use Rattle.std.proofs.Common.{◌≡◌, ◌++◌}
use Rattle.property_sets.specs.Names.{names_at}
use Rattle.property_sets.proofs.dictionary.entries.Given as goal

-- the entries so far were read
abbrev pub invariant-loop-left : goal.invariant-loop-left
invariant-loop-left l = names_at l.set l.wide l.fn.count l.fn.from ≡ l.found.items ++ names_at l.set l.wide l.left l.at

abbrev pub decreases-loop-left : goal.decreases-loop-left
decreases-loop-left l = l.left
