use Rattle.std.proofs.Common.{◌-◌, ◌≤◌, length}
use Rattle.tab_stops.proofs.PrcLemmas.{PrcsFront}
use Rattle.tab_stops.proofs.prcs.push_prc_stops.Given as goal

-- the Prcs before an offset were gone through
abbrev pub invariant-loop-len : goal.invariant-loop-len
invariant-loop-len l = record {
  within : l.at ≤ length l.clx;
  front : PrcsFront l.clx l.begin l.at l.fn.places.items l.places.items;
}

abbrev pub decreases-loop-len : goal.decreases-loop-len
decreases-loop-len l = length l.clx - l.at
