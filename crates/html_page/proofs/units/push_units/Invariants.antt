use Rattle.std.proofs.Common.{◌≤◌, ◌-◌, drop, length}
use Rattle.html_page.proofs.PutLemmas.{UnitsAt}
use Rattle.html_page.proofs.units.push_units.Given as goal

-- the units so far were put
abbrev pub invariant-loop-done : goal.invariant-loop-done
invariant-loop-done g l = record {
  inside : l.done ≤ length l.units;
  units : UnitsAt g.K.Sink l.fn.out l.fn.page l.out l.page l.units (drop l.done l.units);
}

abbrev pub decreases-loop-done : goal.decreases-loop-done
decreases-loop-done g l = length l.units - l.done
