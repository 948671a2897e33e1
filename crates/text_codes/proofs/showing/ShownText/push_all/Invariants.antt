use Rattle.std.proofs.Common.{length, ◌-◌, ◌≡◌, ◌≤◌, List, ℕ, drop, ◌++◌}
use Rattle.text_codes.specs.Shown.{completed}
use Rattle.text_codes.proofs.showing.ShownText.push_all.Given as goal

-- completed by the units that are left it is the text that all complete
abbrev pub invariant-loop-done : goal.invariant-loop-done
invariant-loop-done l = record {
  inside : l.done ≤ length l.units;
  text : (after : List ℕ) → completed l.self (drop l.done l.units ++ after) ≡ completed l.fn.self (l.units ++ after);
}

abbrev pub decreases-loop-done : goal.decreases-loop-done
decreases-loop-done l = length l.units - l.done
