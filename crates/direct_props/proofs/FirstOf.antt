-- The first of some numbers that is so.
use Rattle.std.proofs.Common.{◌≡◌, ◌⊎◌, inl, inr, subst, ℕ, zero, suc, ◌<◌, arith}
use Rattle.std.proofs.lemmas.Bool.{cases_lt}

pub record IsFirstOf (n : ℕ) (Is : ℕ → Type 0) (k : ℕ) : Type 0 where
  pub below : k < n
  pub is : Is k
  pub first : (j : ℕ) → j < k → ¬ (Is j)

pub first_or_none : (n : ℕ) (Is : ℕ → Type 0) → ((k : ℕ) → Is k ⊎ (¬ (Is k))) → ((k : ℕ) × IsFirstOf n Is k) ⊎
    ((k : ℕ) → k < n → ¬ (Is k))
first_or_none zero Is decide = inr (λ k below. absurd (omega arith))
first_or_none (suc n) Is decide = elim (first_or_none n Is decide) [
  | inl found ↦ (let below = found.1.below in inl (
    found.0,
    record {
      below = omega arith;
      is = found.1.is;
      first = found.1.first;
    },
  ))
  | inr none ↦ elim (decide n) [
    | inl here ↦ inl (n, record { below = omega arith; is = here; first = none })
    | inr other ↦ inr (λ k below is. elim (cases_lt k n) [
      | inl low ↦ none k low is
      | inr high ↦ let same : k ≡ n = omega arith in other (subst Is same is)
    ])
  ]
]
