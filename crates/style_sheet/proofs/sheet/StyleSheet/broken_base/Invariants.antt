use Rattle.std.proofs.Common.{ℕ, ◌<◌}
use Rattle.style_sheet.specs.Chain.{HasSoundBase}
use Rattle.style_sheet.proofs.sheet.StyleSheet.broken_base.Given as goal

abbrev pub invariant-loop-istd : goal.invariant-loop-istd
invariant-loop-istd l = (k : ℕ) → k < l.istd → HasSoundBase l.self k
