use Rattle.std.proofs.Common.{◌+◌, ◌*◌}
use Rattle.list_numbers.proofs.CounterLemmas.{IsClearing}
use Rattle.list_numbers.proofs.counters.count_place.Given as goal

abbrev pub invariant-loop-above : goal.invariant-loop-above
invariant-loop-above l = IsClearing l.fn.counts l.counts (9 * l.fn.place.list + l.fn.place.level) l.above
