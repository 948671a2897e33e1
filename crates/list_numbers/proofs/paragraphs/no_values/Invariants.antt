use Rattle.std.proofs.Common.{◌≡◌, replicate, None}
use Rattle.list_numbers.proofs.paragraphs.no_values.Given as goal

abbrev pub invariant-loop-i : goal.invariant-loop-i
invariant-loop-i l = l.known.items ≡ replicate l._i None
