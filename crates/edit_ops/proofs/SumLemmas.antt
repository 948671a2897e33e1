-- Sums over the entries so far, and over ranges.
use Rattle.std.proofs.Common.{◌≡◌, ◌∙◌, ap, ℕ, ◌+◌, ◌-◌, ◌<◌, ◌≤◌, List, take, drop, Some, arith}
use Rattle.std.specs.Prelude.{slice_get, slice_range}
use Rattle.std.specs.List.{sum_by}
use Rattle.std.proofs.lemmas.List.Folds.{drop_split}
use Rattle.std.proofs.lemmas.List.Sums.{sum_by-append, sum_by_more, sum_by_more_le, sum_by-take-drop}
use Rattle.std.proofs.lemmas.Option.{slice_get_within, get_or_from_slice_get}

-- ---- the entries so far

pub sum_more : {A : Type 0} (f : A → ℕ) (entries : List A) (i : ℕ) (entry : A) → slice_get entries i ≡ Some entry →
    sum_by f (take (i + 1) entries) ≡ sum_by f (take i entries) + f entry
sum_more f entries i entry there =
    sum_by_more f entries i entry (slice_get_within entries i entry there)
    ∙ ap (λ x. sum_by f (take i entries) + f x) (get_or_from_slice_get entries i entry entry there)

pub sum_within : {A : Type 0} (f : A → ℕ) (entries : List A) (i : ℕ) (entry : A) → slice_get entries i ≡ Some entry →
    sum_by f (take i entries) + f entry ≤ sum_by f entries
sum_within f entries i entry there =
    let most = sum_by_more_le f entries i entry (slice_get_within entries i entry there) in
    let same = ap f (get_or_from_slice_get entries i entry entry there) in
    omega arith

-- ---- ranges

pub no_range : {A : Type 0} (f : A → ℕ) (entries : List A) (at : ℕ) → sum_by f (slice_range entries at at) ≡ 0
no_range f entries at =
    let none : at - at ≡ 0 = omega arith in
    ap (λ n. sum_by f (take n (drop at entries))) none

-- the entries of a range are those up to its end without those up to its begin
range_is : {A : Type 0} (f : A → ℕ) (entries : List A) (from to : ℕ) → from ≤ to → sum_by f (take to entries) ≡ sum_by
    f (take from entries) + sum_by f (slice_range entries from to)
range_is f entries from to ordered =
    let front = sum_by-take-drop f entries from in
    let back = sum_by-take-drop f entries to in
    let split = ap (sum_by f) (drop_split entries from to ordered) ∙ sum_by-append f (slice_range entries from to)
    (drop to entries) in
    omega arith

pub range_more : {A : Type 0} (f : A → ℕ) (entries : List A) (from k : ℕ) (entry : A) → from ≤ k → slice_get entries k
    ≡ Some entry → sum_by f (slice_range entries from (k + 1)) ≡ sum_by f (slice_range entries from k) + f entry
range_more f entries from k entry ordered there =
    let before = range_is f entries from k ordered in
    let after = range_is f entries from (k + 1) (omega arith) in
    let more = sum_more f entries k entry there in
    omega arith

-- what a range has so far and the next entry are within the range
pub range_within : {A : Type 0} (f : A → ℕ) (entries : List A) (from to k : ℕ) (entry : A) → from ≤ k → k < to →
    slice_get entries k ≡ Some entry → sum_by f (slice_range entries from k) + f entry ≤ sum_by f (slice_range entries
    from to)
range_within f entries from to k entry ordered before there =
    let more = range_more f entries from k entry ordered there in
    let upto = range_is f entries from (k + 1) (omega arith) in
    let all = range_is f entries from to (omega arith) in
    let rest = range_is f entries (k + 1) to (omega arith) in
    omega arith

-- the entries of a range have no more than all
pub range_sum : {A : Type 0} (f : A → ℕ) (entries : List A) (from to : ℕ) → sum_by f (slice_range entries from to) ≤
    sum_by f entries
range_sum f entries from to =
    let front = sum_by-take-drop f entries from in
    let back = sum_by-take-drop f (drop from entries) (to - from) in
    omega arith
