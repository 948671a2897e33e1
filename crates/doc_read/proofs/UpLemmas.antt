-- CPs that ascend between two bounds.
use Rattle.std.proofs.Common.{◌≡◌, ◌⊎◌, ◌∙◌, refl, ap, ℕ, zero, suc, ◌<◌, ◌≤◌, ◌+◌, ◌-◌, Bool, List, [], ◌∷◌}
use Rattle.std.proofs.Common.{◌++◌, length, map, drop, arith, inl, inr, length-append}
use Rattle.std.specs.Prelude.{slice_index}
use Rattle.std.proofs.lemmas.Bool.{cases_lt}
use Rattle.std.proofs.lemmas.List.{length-map, get_or-map, get_or_append_left, get_or-append-add}
use Rattle.doc_parts.specs.declared.cps.CpOrder.TheVariants.{Ascend}
use Rattle.doc_parts.specs.Cps.{AreCpsInOrder}
use Rattle.doc_read.specs.Passing.{AreUp}
use Rattle.doc_read.proofs.EntryLemmas.{up_tail}

pub record IsUpWithin (low high : ℕ) (cps : List ℕ) : Type 0 where
  pub up : AreUp cps
  pub above : (k : ℕ) → k < length cps → low ≤ slice_index cps k
  pub below : (k : ℕ) → k < length cps → slice_index cps k < high

-- each CP is above the one before it
up_from_steps : (cps : List ℕ) → ((j : ℕ) → j + 1 < length cps → slice_index cps j < slice_index cps (j + 1)) →
    AreUp cps
up_from_steps cps step i zero lower below = absurd (omega arith)
up_from_steps cps step i (suc j) lower below =
    let next : j + 1 ≡ suc j = omega arith in
    let at : slice_index cps (j + 1) ≡ slice_index cps (suc j) = ap (slice_index cps) next in
    let last = step j (omega arith) in
    elim (cases_lt i j) [
      | inl earlier ↦ let before = up_from_steps cps step i j earlier (omega arith) in omega (arith, before, last, at)
      | inr same ↦ let i_is : i ≡ j = omega arith in let e : slice_index cps i ≡ slice_index cps j = ap (slice_index
          cps) i_is in omega (arith, e, last, at)
    ]

-- the CPs of a table
pub up_in_order : (from_zero : Bool) (len : ℕ) (cps : List ℕ) →
    AreCpsInOrder (record { order = Ascend; from_zero = from_zero; story_len = len }) cps → IsUpWithin 0 len cps
up_in_order from_zero len cps in_order = record {
  up = up_from_steps cps (λ j below. (in_order (j + 1) below).after j refl);
  above = λ k below. omega arith;
  below = λ k below. (in_order k below).within;
}

-- those of a story that begins at a CP
shift_at : (begin : ℕ) (cps : List ℕ) (k : ℕ) → k < length (map (λ cp. begin + cp) cps) →
    (k < length cps) × (slice_index (map (λ cp. begin + cp) cps) k ≡ begin + slice_index cps k)
shift_at begin cps k h =
    let below : k < length cps =
    omega (arith, length-map cps (λ cp. begin + cp)) in (below, get_or-map (λ cp. begin + cp) cps k 0 0 below)

pub up_shift : (begin len high : ℕ) (cps : List ℕ) → begin + len ≤ high → IsUpWithin 0 len cps →
    IsUpWithin begin high (map (λ cp. begin + cp) cps)
up_shift begin len high cps enough is = record {
  up = λ i j lower below.
      let y = shift_at begin cps j below in
      let x = shift_at begin cps i (omega arith) in
      let u = is.up i j lower y.0 in
      omega (arith, x.1, y.1, u);
  above = λ k below. let x = shift_at begin cps k below in omega (arith, x.1);
  below = λ k below. let x = shift_at begin cps k below in let u = is.below k x.0 in omega (arith, x.1, u);
}

-- an entry of a joined list is one of the first list, or one of the second
either_side : (xs ys : List ℕ) (k : ℕ) → k < length (xs ++ ys) →
    ((k < length xs) × (slice_index (xs ++ ys) k ≡ slice_index xs k)) ⊎ ((n : ℕ) × ((k ≡ length xs + n) ×
    ((n < length ys) × (slice_index (xs ++ ys) k ≡ slice_index ys n))))
either_side xs ys k h = elim (cases_lt k (length xs)) [
  | inl lower ↦ inl (lower, get_or_append_left xs ys 0 k lower)
  | inr upper ↦
      let n : ℕ = k - length xs in
      let e : k ≡ length xs + n = omega arith in
      inr (n, (e, (omega (arith, length-append xs ys), ap (slice_index (xs ++ ys)) e ∙ get_or-append-add xs ys n 0)))
]

pub up_join : (low mid high : ℕ) (xs ys : List ℕ) → low ≤ mid → mid ≤ high → IsUpWithin low mid xs →
    IsUpWithin mid high ys → IsUpWithin low high (xs ++ ys)
up_join low mid high xs ys lower upper first next = record {
  up = λ i j before below. elim (either_side xs ys j below) [
    | inl y ↦ elim (either_side xs ys i (omega arith)) [
      | inl x ↦ let u = first.up i j before y.0 in omega (arith, x.1, y.1, u)
      | inr x ↦ absurd (omega (arith, x.1.0, y.0))
    ]
    | inr y ↦ elim (either_side xs ys i (omega arith)) [
      | inl x ↦ let a = first.below i x.0 in let b = next.above y.0 y.1.1.0 in omega (arith, x.1, y.1.1.1, a, b)
      | inr x ↦ let u = next.up x.0 y.0 (omega (arith, x.1.0, y.1.0)) y.1.1.0 in omega (arith, x.1.1.1, y.1.1.1, u)
    ]
  ];
  above = λ k below. elim (either_side xs ys k below) [
    | inl x ↦ let a = first.above k x.0 in omega (arith, x.1, a)
    | inr x ↦ let a = next.above x.0 x.1.1.0 in omega (arith, x.1.1.1, a)
  ];
  below = λ k below. elim (either_side xs ys k below) [
    | inl x ↦ let a = first.below k x.0 in omega (arith, x.1, a)
    | inr x ↦ let a = next.below x.0 x.1.1.0 in omega (arith, x.1.1.1, a)
  ];
}

-- one CP alone
one_at : (cp k : ℕ) → k < 1 → slice_index (cp ∷ []) k ≡ cp
one_at cp zero h = refl
one_at cp (suc k) h = absurd (omega arith)

pub up_one : (cp : ℕ) → IsUpWithin cp (cp + 1) (cp ∷ [])
up_one cp = record {
  up = λ i j before below. absurd (omega arith);
  above = λ k below. let e = one_at cp k below in omega (arith, e);
  below = λ k below. let e = one_at cp k below in omega (arith, e);
}

-- all but the first
pub up_rest : (len : ℕ) (cps : List ℕ) → IsUpWithin 0 len cps → IsUpWithin 1 len (drop 1 cps)
up_rest len [] is = record {
  up = λ i j before below. absurd (omega arith);
  above = λ k below. absurd (omega arith);
  below = λ k below. absurd (omega arith);
}
up_rest len (c ∷ cps) is = record {
  up = up_tail c cps is.up;
  above = λ k below. let u : c < slice_index cps k = is.up zero (suc k) (omega arith) (omega arith) in omega (arith, u);
  below = λ k below. is.below (suc k) (omega arith);
}

-- each by one less
pub up_less : (high : ℕ) (cps : List ℕ) → IsUpWithin 1 high cps → AreUp (map (λ cp. cp - 1) cps)
up_less high cps is i j before below =
    let y_below : j < length cps = omega (arith, length-map cps (λ cp. cp - 1)) in
    let x_below : i < length cps = omega arith in
    let y = get_or-map (λ cp. cp - 1) cps j 0 0 y_below in
    let x = get_or-map (λ cp. cp - 1) cps i 0 0 x_below in
    let u = is.up i j before y_below in
    let a = is.above i x_below in
    omega (arith, x, y, u, a)
