-- The order of the CPs of a table.
use Rattle.std.specs.Prelude.{◌≡◌, ℕ, ◌+◌, ◌<◌, ◌≤◌, List, length, slice_index, IsTrue}
use Rattle.doc_parts.specs.declared.cps.CpOrder.{CpOrder}
use Rattle.doc_parts.specs.declared.cps.CpOrder.TheVariants.{Ascend, NeverFall}
use Rattle.doc_parts.specs.declared.cps.CpForm.{CpForm}

-- a CP may be before another one
abbrev pub MayPrecede : CpOrder → ℕ → ℕ → Type 0
MayPrecede Ascend first second = first < second
MayPrecede NeverFall first second = first ≤ second

-- a CP of a list of them is 0 where it has to be, comes after the one before it, and before the end of the story
pub record IsCpInOrder (form : CpForm) (cp : ℕ → ℕ) (k : ℕ) : Type 0 where
  pub begin : IsTrue form.from_zero → k ≡ 0 → cp k ≡ 0
  pub after : (j : ℕ) → j + 1 ≡ k → MayPrecede form.order (cp j) (cp k)
  pub within : MayPrecede form.order (cp k) form.story_len

-- all CPs of the list are
abbrev pub AreCpsInOrder : CpForm → List ℕ → Type 0
AreCpsInOrder form cps = (k : ℕ) → k < length cps → IsCpInOrder form (slice_index cps) k
