-- A list without a fault has none once its codes are skipped.
use Rattle.std.proofs.Common.{ℕ, List, inl, inr, sym, subst}
use Rattle.doc_bits.specs.Rules.{Nowhere}
use Rattle.sprm_table.specs.Sprm.{HasSprmFaultAt}
use Rattle.sprm_table.proofs.Public.{accepted_no_fault}
use Rattle.prl_skips.specs.Skips.{SkipsOrStays}
use Rattle.prl_skips.proofs.SkipLemmas.{accepted_skips}

pub right_skips : (old new : List ℕ) (groups : ℕ) → SkipsOrStays old new → Nowhere (HasSprmFaultAt old groups) →
    Nowhere (HasSprmFaultAt new groups)
right_skips old new groups (inl skips) none =
    λ place fault. accepted_no_fault new groups place (accepted_skips old new skips groups) fault
right_skips old new groups (inr stays) none =
    subst (λ (l : List ℕ). Nowhere (HasSprmFaultAt l groups)) (sym stays.1) none
