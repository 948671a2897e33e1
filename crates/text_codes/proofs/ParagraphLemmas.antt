-- The units before the first that ends a paragraph.
use Rattle.std.proofs.Common.{◌≡◌, ℕ, ◌<◌, ◌≤◌, false, inl, inr, rules}
use Rattle.std.proofs.lemmas.Bool.{cases_lt}
use Rattle.text_codes.specs.Paragraph.{paragraph_mark, is_paragraph_end}

-- a unit above a paragraph mark ends none
pub unit_above : (unit : ℕ) → paragraph_mark < unit → is_paragraph_end unit false ≡ false
unit_above unit high = search rules

-- what holds at the first places, and at those from there up to another, holds at all of these
pub first_ones-more : (P : ℕ → Type 0) (from to : ℕ) → ((k : ℕ) → k < from → P k) →
    ((k : ℕ) → from ≤ k → k < to → P k) → (k : ℕ) → k < to → P k
first_ones-more P from to before behind k below = elim (cases_lt k from) [
  | inl h ↦ before k h
  | inr h ↦ behind k h below
]
