-- A range of a list in place of which another one is put.
use Rattle.std.proofs.Common.{◌≡◌, ℕ, ◌+◌, ◌-◌, ◌<◌, ◌≤◌, List, ◌++◌, length, take, drop, slice_index}
use Rattle.std.proofs.Common.{slice_range, sym, ap, ◌∙◌, arith, length-append, length-drop}
use Rattle.std.proofs.lemmas.List.{ext_get_or, get_or-take, get_or-drop, get_or_append_left, get_or-append_right}
use Rattle.std.proofs.lemmas.List.{length-take-le, drop-take, drop-drop, append_assoc}
use Rattle.doc_bits.proofs.Public.{length-range, range_mid, range_index}

-- what a range has, its bytes have
pub byte_of_range : (a b : List ℕ) (from to i : ℕ) → from ≤ i → i < to →
    slice_range a from to ≡ slice_range b from to → slice_index a i ≡ slice_index b i
byte_of_range a b from to i low high same =
    let place : from + (i - from) ≡ i = omega (arith, low) in
    let inside : i - from < to - from = omega (arith, low, high) in
    ap (slice_index a) (sym place)
    ∙ (sym (range_index a from to (i - from) inside)
    ∙ (ap (λ l. slice_index l (i - from)) same
    ∙ (range_index b from to (i - from) inside ∙ ap (slice_index b) place)))

-- ranges with the same numbers are equal
pub range_same : (xs ys : List ℕ) (from to : ℕ) → to ≤ length xs → to ≤ length ys →
    ((i : ℕ) → from ≤ i → i < to → slice_index xs i ≡ slice_index ys i) → slice_range xs from to ≡ slice_range ys
    from to
range_same xs ys from to h k same =
    let a = length-range xs from to h in
    let b = length-range ys from to k in
    ext_get_or 0 (slice_range xs from to) (slice_range ys from to) (omega arith) (λ i low.
    let inside : i < to - from = omega arith in
    range_index xs from to i inside
    ∙ (same (from + i) (omega arith) (omega arith) ∙ sym (range_index ys from to i inside)))

pub front_same : (xs ys : List ℕ) (n : ℕ) → n ≤ length xs → n ≤ length ys →
    ((i : ℕ) → i < n → slice_index xs i ≡ slice_index ys i) → take n xs ≡ take n ys
front_same xs ys n h k same =
    let a = length-take-le n xs h in
    let b = length-take-le n ys k in
    ext_get_or 0 (take n xs) (take n ys) (omega arith) (λ i low.
    let inside : i < n = omega arith in
    get_or-take n xs i 0 inside ∙ (same i inside ∙ sym (get_or-take n ys i 0 inside)))

-- a range without its first numbers, and these
pub drop_range : (xs : List ℕ) (from to k : ℕ) → from + k ≤ to →
    drop k (slice_range xs from to) ≡ slice_range xs (from + k) to
drop_range xs from to k h =
    let width : to - from ≡ k + (to - (from + k)) = omega arith in
    ap (λ n. drop k (take n (drop from xs))) width
    ∙ (drop-take k (to - (from + k)) (drop from xs)
    ∙ ap (take (to - (from + k))) (drop-drop k from xs))

-- the list with other numbers in place of a range
pub put_length : (old new mid : List ℕ) (from to : ℕ) → from ≤ to → to ≤ length old → length mid ≡ to - from →
    new ≡ take from old ++ (mid ++ drop to old) → length new ≡ length old
put_length old new mid from to order within len put =
    let a = ap length put ∙ length-append (take from old) (mid ++ drop to old) in
    let b = length-append mid (drop to old) in
    let c = length-take-le from old (omega arith) in
    let d = length-drop to old in
    omega arith

pub put_before : (old new mid : List ℕ) (from to i : ℕ) → from ≤ length old → i < from →
    new ≡ take from old ++ (mid ++ drop to old) → slice_index new i ≡ slice_index old i
put_before old new mid from to i within low put =
    let c = length-take-le from old within in
    ap (λ l. slice_index l i) put
    ∙ (get_or_append_left (take from old) (mid ++ drop to old) 0 i (omega arith) ∙ get_or-take from old i 0 low)

pub put_after : (old new mid : List ℕ) (from to i : ℕ) → from ≤ to → to ≤ length old → length mid ≡ to - from →
    to ≤ i → new ≡ take from old ++ (mid ++ drop to old) → slice_index new i ≡ slice_index old i
put_after old new mid from to i order within len high put =
    let c = length-take-le from old (omega arith) in
    let d = length-append (take from old) mid in
    let n : length (take from old ++ mid) ≡ to = omega arith in
    let place : to + (i - to) ≡ i = omega arith in
    ap (λ l. slice_index l i) (put ∙ sym (append_assoc (take from old) mid (drop to old)))
    ∙ (get_or-append_right (take from old ++ mid) (drop to old) to i 0 n high
    ∙ (get_or-drop to old (i - to) 0 ∙ ap (slice_index old) place))

pub put_range : (old new mid : List ℕ) (from to : ℕ) → from ≤ to → to ≤ length old → length mid ≡ to - from →
    new ≡ take from old ++ (mid ++ drop to old) → slice_range new from to ≡ mid
put_range old new mid from to order within len put =
    let c = length-take-le from old (omega arith) in
    range_mid new (take from old) mid (drop to old) from to put (sym c) (omega arith)
