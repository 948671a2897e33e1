use Rattle.std.proofs.Common.{◌≡◌, ◌-◌, ◌≤◌, drop, length}
use Rattle.json_values.specs.Digits.{units_of_bytes}
use Rattle.json_values.proofs.DigitLemmas.{behind}
use Rattle.json_values.proofs.digits.units_from_bytes.Given as goal

abbrev pub invariant-loop-at : goal.invariant-loop-at
invariant-loop-at l = (l.at ≤ length l.bytes) × (units_of_bytes l.bytes ≡ behind l.units (units_of_bytes
    (drop l.at l.bytes)))

abbrev pub decreases-loop-at : goal.decreases-loop-at
decreases-loop-at l = length l.bytes - l.at
