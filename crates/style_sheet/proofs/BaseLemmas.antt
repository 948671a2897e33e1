-- Where no style breaks the rule of bases, each style has its chain.
use Rattle.std.proofs.Common.{◌≡◌, ◌⊎◌, inl, inr, ℕ, zero, suc, ◌+◌, ◌≤◌, List, length, Option, Some, None, refl, arith}
use Rattle.std.proofs.lemmas.Bool.{cases_eq}
use Rattle.style_sheet.specs.Sheet.{Sheet}
use Rattle.style_sheet.specs.Chain.{style_kind_at, base_at, IsBaseChain, HasSoundBases, BreaksBases}
use Rattle.style_sheet.proofs.ChainLemmas.{ups, IsClimbed, climbed_none, climbed_more, climbed_chain}
use Rattle.style_sheet.proofs.OneChainLemmas.{climbed_below, next_kind, chain_short}

-- a style has a chain, or it has none
abbrev IsDecided : Sheet → ℕ → Type 0
IsDecided sheet istd = ((chain : List ℕ) × IsBaseChain sheet istd chain) ⊎ ((chain : List ℕ) → ¬ IsBaseChain sheet
    istd chain)

next_base : (sheet : Sheet) (istd n at : ℕ) → IsClimbed sheet istd n at → (base : Option ℕ) → base_at sheet at ≡ base →
    ((next : ℕ) → IsClimbed sheet istd (suc n) next → IsDecided sheet istd) → IsDecided sheet istd
next_base sheet istd n at c None e more = inl (ups sheet istd n, climbed_chain sheet istd n at c e)
next_base sheet istd n at c (Some next) e more = elim (cases_eq (style_kind_at sheet next) (style_kind_at sheet istd)) [
  | inl same ↦ more next (climbed_more sheet istd n at next c e same)
  | inr other ↦ inr (λ chain b. other (next_kind sheet istd n at next chain c e b))
]

-- the bases end, or they are more than there are slots
climb : (sheet : Sheet) (istd n at left : ℕ) → IsClimbed sheet istd n at → length sheet.styles ≤ n + left →
    IsDecided sheet istd
climb sheet istd n at zero c h =
    inr (λ chain b. let short = chain_short sheet istd chain b in let below = climbed_below sheet istd n at chain c b
    in absurd (omega arith))
climb sheet istd n at (suc left) c h =
    next_base sheet istd n at c (base_at sheet at) refl (λ next more. climb sheet istd (suc n) next left more
    (omega arith))

pub unbroken_bases : (sheet : Sheet) → ((istd : ℕ) → ¬ BreaksBases sheet istd) → HasSoundBases sheet
unbroken_bases sheet none = record {
  normal = elim (cases_eq (style_kind_at sheet 0) 1) [
    | inl e ↦ e
    | inr other ↦ absurd (none 0 (inl (refl, other)))
  ];
  chains = λ istd h. elim (climb sheet istd 0 istd (length sheet.styles) (climbed_none sheet istd h) (omega arith)) [
    | inl found ↦ found
    | inr without ↦ absurd (none istd (inr (record { properties = h; none = without })))
  ];
}
