use Rattle.std.proofs.Common.{◌≡◌, ◌≤◌, ◌-◌, ◌++◌, length, take}
use Rattle.text_codes.specs.Digits.{bytes_text}
use Rattle.text_codes.proofs.digits.push_bytes.Given as goal

-- the digits of the bytes so far are appended
abbrev pub invariant-loop-done : goal.invariant-loop-done
invariant-loop-done l = record {
  inside : l.done ≤ length l.bytes;
  text : l.text ≡ l.initial.text ++ bytes_text (take l.done l.bytes);
}

abbrev pub decreases-loop-done : goal.decreases-loop-done
decreases-loop-done l = length l.bytes - l.done
