use Rattle.std.proofs.Common.{◌≡◌, ◌-◌, ◌≤◌, drop, length}
use Rattle.edit_script.specs.Hex.{bytes_of_digits}
use Rattle.edit_script.proofs.HexLemmas.{before}
use Rattle.edit_script.proofs.hex.bytes_from_digits.Given as goal

abbrev pub invariant-loop-at : goal.invariant-loop-at
invariant-loop-at l = (l.at ≤ length l.digits) × (bytes_of_digits l.digits ≡ before l.bytes (bytes_of_digits
    (drop l.at l.digits)))

abbrev pub decreases-loop-at : goal.decreases-loop-at
decreases-loop-at l = length l.digits - l.at
