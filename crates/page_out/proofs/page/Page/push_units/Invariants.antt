use Rattle.std.proofs.Common.{◌-◌, ◌≤◌, length, take}
use Rattle.page_out.specs.Printed.{Prints}
use Rattle.page_out.proofs.page.Page.push_units.Given as goal

-- the units so far were put
abbrev pub invariant-loop-done : goal.invariant-loop-done
invariant-loop-done g l = record {
  inside : l.done ≤ length l.units;
  text : Prints g.K.Sink l.fn.out l.fn.self l.out l.self (take l.done l.units);
}

abbrev pub decreases-loop-done : goal.decreases-loop-done
decreases-loop-done g l = length l.units - l.done
