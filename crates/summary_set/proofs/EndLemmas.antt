-- Where values end, and that all together are no longer than the set.
use Rattle.std.proofs.Common.{◌≡◌, ◌≢◌, ◌∙◌, inl, inr, ℕ, zero, suc, ◌+◌, ◌-◌, ◌<◌, ◌≤◌, min, Bool, true, false, cond}
use Rattle.std.proofs.Common.{List, [], ◌∷◌, length, refl, ap, subst, arith}
use Rattle.std.specs.Prelude.{◌⊎◌, nat_lt, fold, filter, sum_by, slice_index}
use Rattle.std.proofs.lemmas.Bool.{cases_lt, cases_eq, lt-ltb, le-ltb}
use Rattle.std.proofs.lemmas.List.Sums.{sum_by-cons, sum_by-le}
use Rattle.std.specs.List.{All}
use Rattle.std.proofs.lemmas.List.Elements.{All-head, All-tail, All-from_get_or}
use Rattle.summary_set.specs.Values.{value_end}

fold_min_le : (xs : List ℕ) (a : ℕ) → fold min a xs ≤ a
fold_min_le [] a = omega arith
fold_min_le (x ∷ xs) a = let ih = fold_min_le xs (min a x) in omega arith

-- no value ends behind the set
pub value_end-le : (offsets : List ℕ) (size offset : ℕ) → value_end offsets size offset ≤ size
value_end-le offsets size offset = fold_min_le (filter (nat_lt offset) offsets) size

one_offset : (passes : Bool) (x size : ℕ) (ys : List ℕ) →
    fold min size (cond passes (x ∷ ys) ys) ≡ cond passes (fold min
    (min size x) ys) (fold min size ys)
one_offset true x size ys = refl
one_offset false x size ys = refl

-- an offset above the value's own bounds it
value_end-above : (x : ℕ) (xs : List ℕ) (size offset : ℕ) → offset < x → value_end (x ∷ xs) size offset ≡ value_end xs
    (min size x) offset
value_end-above x xs size offset h =
    one_offset (nat_lt offset x) x size (filter (nat_lt offset) xs)
    ∙ ap (λ passes. cond passes (value_end xs (min size x) offset) (value_end xs size offset)) (lt-ltb offset x h)

-- another one does not
value_end-below : (x : ℕ) (xs : List ℕ) (size offset : ℕ) → x ≤ offset → value_end (x ∷ xs) size offset ≡ value_end xs
    size offset
value_end-below x xs size offset h =
    one_offset (nat_lt offset x) x size (filter (nat_lt offset) xs)
    ∙ ap (λ passes. cond passes (value_end xs (min size x) offset) (value_end xs size offset)) (le-ltb offset x h)

-- a value ends at the latest at each offset above its own
pub value_end-upto : (offsets : List ℕ) (size offset k : ℕ) → k < length offsets → offset < slice_index offsets k →
    value_end offsets size offset ≤ slice_index offsets k
value_end-upto [] size offset k below above = absurd (omega arith)
value_end-upto (x ∷ xs) size offset zero below above =
    let e = value_end-above x xs size offset above in
    let le = value_end-le xs (min size x) offset in
    omega arith
value_end-upto (x ∷ xs) size offset (suc k) below above = elim (cases_lt offset x) [
  | inl high ↦
      let e = value_end-above x xs size offset high in
      let ih = value_end-upto xs (min size x) offset k (omega arith) above in
      omega arith
  | inr low ↦
      let e = value_end-below x xs size offset low in
      let ih = value_end-upto xs size offset k (omega arith) above in
      omega arith
]

-- and not before what is at most the size and each such offset
pub value_end-from : (offsets : List ℕ) (size offset least : ℕ) → least ≤ size →
    ((k : ℕ) → k < length offsets → offset <
    slice_index offsets k → least ≤ slice_index offsets k) → least ≤ value_end offsets size offset
value_end-from [] size offset least within each = within
value_end-from (x ∷ xs) size offset least within each = elim (cases_lt offset x) [
  | inl high ↦
      let e = value_end-above x xs size offset high in
      let here : least ≤ x = each 0 (omega arith) high in
      let ih = value_end-from xs (min size x) offset least (omega arith) (λ k below. each (suc k) (omega arith)) in
      omega arith
  | inr low ↦
      let e = value_end-below x xs size offset low in
      let ih = value_end-from xs size offset least within (λ k below. each (suc k) (omega arith)) in
      omega arith
]

-- ---- all values together

-- sums of what is less place by place
pub sum_by-le_on : {A : Type 0} (f g : A → ℕ) (xs : List A) → All (λ x. f x ≤ g x) xs → sum_by f xs ≤ sum_by g xs
sum_by-le_on f g [] each = omega arith
sum_by-le_on f g (x ∷ xs) each =
    let here : f x ≤ g x = All-head (λ y. f y ≤ g y) x xs each in
    let ih = sum_by-le_on f g xs (All-tail (λ y. f y ≤ g y) x xs each) in
    let a = sum_by-cons f x xs in
    let b = sum_by-cons g x xs in
    omega arith

not_found : (x q : ℕ) (xs : List ℕ) → x ≢ q → ((k : ℕ) → k < length xs → slice_index xs k ≢ q) → (k : ℕ) → k < length
    (x ∷ xs) → slice_index (x ∷ xs) k ≢ q
not_found x q xs differ none zero below = differ
not_found x q xs differ none (suc k) below = none k (omega arith)

-- a number is one of a list, or none of it
found_or_not : (q : ℕ) (xs : List ℕ) → ((k : ℕ) × ((k < length xs) × (slice_index xs k ≡ q))) ⊎ ((k : ℕ) → k < length xs
    → slice_index xs k ≢ q)
found_or_not q [] = inr (λ k below. absurd (omega arith))
found_or_not q (x ∷ xs) = elim (cases_eq x q) [
  | inl e ↦ inl (0, (omega arith, e))
  | inr differ ↦ elim (found_or_not q xs) [
    | inl w ↦ let below = w.1.0 in inl (suc w.0, (omega arith, w.1.1))
    | inr none ↦ inr (not_found x q xs differ none)
  ]
]

-- what the numbers from a threshold on span
span_from : (ℕ → ℕ) → ℕ → ℕ → ℕ
span_from end least offset = cond (nat_lt offset least) 0 (end offset - offset)

span_below : (end : ℕ → ℕ) (least offset : ℕ) → offset < least → span_from end least offset ≡ 0
unfolding span_from
span_below end least offset h = ap (λ below. cond below 0 (end offset - offset)) (lt-ltb offset least h)

span_above : (end : ℕ → ℕ) (least offset : ℕ) → least ≤ offset → span_from end least offset ≡ end offset - offset
unfolding span_from
span_above end least offset h = ap (λ below. cond below 0 (end offset - offset)) (le-ltb offset least h)

-- a higher threshold leaves out less than what is between
span_higher : (end : ℕ → ℕ) (least more offset : ℕ) → ((least ≤ offset) → more ≤ offset) → span_from end least offset ≤
    span_from end more offset
span_higher end least more offset h = elim (cases_lt offset least) [
  | inl low ↦ let e = span_below end least offset low in omega arith
  | inr high ↦
      let e = span_above end least offset high in
      let f = span_above end more offset (h high) in
      omega arith
]

-- the number at the threshold apart
one_span : (end : ℕ → ℕ) (least : ℕ) (xs : List ℕ) → ((i j : ℕ) → i < j → j < length xs → slice_index xs i ≢
    slice_index xs j) → sum_by (span_from end least) xs ≤ (end least - least) + sum_by (span_from end (suc least)) xs
one_span end least [] apart = omega arith
one_span end least (x ∷ xs) apart =
    let a = sum_by-cons (span_from end least) x xs in
    let b = sum_by-cons (span_from end (suc least)) x xs in
    elim (cases_eq x least) [
      | inl e ↦
          let here : span_from end least x ≡ end least - least =
          span_above end least x (omega arith) ∙ ap (λ y. end y - y) e in
          let rest = sum_by-le_on (span_from end least) (span_from end (suc least)) xs
          (All-from_get_or (λ y. span_from end least y ≤ span_from end (suc least) y) xs 0 (λ k below.
          span_higher end least (suc least) (slice_index xs k) (λ le.
          let ne = apart 0 (suc k) (omega arith) (omega arith) in omega arith))) in
          omega arith
      | inr differ ↦
          let here = span_higher end least (suc least) x (λ le. omega arith) in
          let ih = one_span end least xs (λ i j h below. apart (suc i) (suc j) (omega arith) (omega arith)) in
          omega arith
    ]

-- numbers below a size, each with an end above it and not behind the next greater one
pub record AreSpans (end : ℕ → ℕ) (size : ℕ) (xs : List ℕ) : Type 0 where
  pub apart : (i j : ℕ) → i < j → j < length xs → slice_index xs i ≢ slice_index xs j
  pub above : (k : ℕ) → k < length xs → slice_index xs k < end (slice_index xs k)
  pub within : (k : ℕ) → k < length xs → end (slice_index xs k) ≤ size
  pub gap : (k j : ℕ) → k < length xs → j < length xs → slice_index xs k < slice_index xs j → end (slice_index xs k) ≤
      slice_index xs j

-- from the size on they span nothing
spans_end : (least : ℕ) (end : ℕ → ℕ) (size : ℕ) (xs : List ℕ) → AreSpans end size xs → least ≡ size →
    sum_by (span_from end least) xs + least ≤ size
spans_end least end size xs spans same =
    let none = sum_by-le_on (span_from end least) (λ _. 0) xs
    (All-from_get_or (λ y. span_from end least y ≤ 0) xs 0 (λ k below.
    let a = spans.above k below in
    let b = spans.within k below in
    let e = span_below end least (slice_index xs k) (omega arith) in omega arith)) in
    let empty = sum_by-le (λ _. 0) 0 xs (λ k d below. omega arith) in
    omega arith

-- from each threshold on they span no more than is left of the size
spans_from : (fuel least : ℕ) (end : ℕ → ℕ) (size : ℕ) (xs : List ℕ) → AreSpans end size xs → least ≤ size →
    size ≤ least + fuel → sum_by (span_from end least) xs + least ≤ size
spans_from zero least end size xs spans within enough = spans_end least end size xs spans (omega arith)
spans_from (suc fuel) least end size xs spans within enough = elim (cases_eq least size) [
  | inl e ↦ spans_end least end size xs spans e
  | inr more ↦ elim (found_or_not least xs) [
    | inl here ↦
        let above : least < end least = subst (λ y. y < end y) here.1.1 (spans.above here.0 here.1.0) in
        let bound : end least ≤ size = subst (λ y. end y ≤ size) here.1.1 (spans.within here.0 here.1.0) in
        let one = one_span end least xs spans.apart in
        let skip = sum_by-le_on (span_from end (suc least)) (span_from end (end least)) xs
        (All-from_get_or (λ y. span_from end (suc least) y ≤ span_from end (end least) y) xs 0 (λ k below.
        span_higher end (suc least) (end least) (slice_index xs k) (λ le.
        subst (λ y. end y ≤ slice_index xs k) here.1.1 (spans.gap here.0 k here.1.0 below (omega (
          arith,
          here.1.1,
        )))))) in
        let ih = spans_from fuel (end least) end size xs spans bound (omega arith) in
        omega arith
    | inr none ↦
        let skip = sum_by-le_on (span_from end least) (span_from end (suc least)) xs
        (All-from_get_or (λ y. span_from end least y ≤ span_from end (suc least) y) xs 0 (λ k below.
        span_higher end least (suc least) (slice_index xs k) (λ le.
        let ne = none k below in omega arith))) in
        let ih = spans_from fuel (suc least) end size xs spans (omega arith) (omega arith) in
        omega arith
  ]
]

-- all together they span no more than the size
pub all_spans : (end : ℕ → ℕ) (size : ℕ) (xs : List ℕ) → AreSpans end size xs → sum_by (λ x. end x - x) xs ≤ size
all_spans end size xs spans =
    let all = spans_from size 0 end size xs spans (omega arith) (omega arith) in
    let same = sum_by-le_on (λ x. end x - x) (span_from end 0) xs
    (All-from_get_or (λ y. end y - y ≤ span_from end 0 y) xs 0 (λ k below.
    let e = span_above end 0 (slice_index xs k) (omega arith) in omega arith)) in
    omega arith
