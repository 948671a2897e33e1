use Rattle.std.proofs.Common.{◌≡◌}
use Rattle.style_sheet.specs.Chain.{style_kind_at}
use Rattle.style_sheet.proofs.ChainLemmas.{IsClimbed}
use Rattle.style_sheet.proofs.sheet.StyleSheet.has_chain.Given as goal

-- the bases so far are of the style's kind
abbrev pub invariant-loop-turn : goal.invariant-loop-turn
invariant-loop-turn l = record {
  climbed : IsClimbed l.self l.fn.istd l._turn l.at;
  kind : l.kind ≡ style_kind_at l.self l.fn.istd;
}
