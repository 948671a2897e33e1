use Rattle.std.proofs.Common.{◌≡◌, ℕ, ◌-◌, length, reverse}
use Rattle.style_sheet.proofs.ChainLemmas.{ups, IsClimbed}
use Rattle.style_sheet.proofs.sheet.StyleSheet.chain.Given as goal

-- the bases so far, the style first
abbrev pub invariant-loop-base : goal.invariant-loop-base
invariant-loop-base l = record {
  n : ℕ;
  climbed : IsClimbed l.self l.fn.istd n l.at;
  items : l.items.items ≡ reverse (ups l.self l.fn.istd n);
}

abbrev pub decreases-loop-base : goal.decreases-loop-base
decreases-loop-base l = length l.self.styles - length l.items.items
