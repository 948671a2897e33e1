use Rattle.std.proofs.Common.{ℕ, ◌<◌, ◌≤◌, length}
use Rattle.style_sheet.specs.Sheet.{style_at}
use Rattle.style_sheet.specs.Written.{written_slot}
use Rattle.style_sheet.proofs.sheet.StyleSheet.is_writable.Given as goal

abbrev pub invariant-loop-istd : goal.invariant-loop-istd
invariant-loop-istd l = (k : ℕ) → k < l.istd → length (written_slot k (style_at l.self k)) ≤ 32767
