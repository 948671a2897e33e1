-- The pairs and the values of a written set, each at its place.
use Rattle.std.proofs.Common.{◌≡◌, ◌∙◌, ℕ, zero, suc, ◌+◌, ◌*◌, ◌^◌, ◌<◌, ◌≤◌, List, [], ◌∷◌}
use Rattle.std.proofs.Common.{◌++◌}
use Rattle.std.proofs.Common.{length, take, Some, refl, sym, ap, subst, arith, length-append, append_assoc}
use Rattle.std.specs.Prelude.{sum_by, slice_range, slice_get, flat_map}
use Rattle.std.proofs.lemmas.List.Sums.{sum_by-cons}
use Rattle.std.proofs.lemmas.Option.{same_Some}
use Rattle.doc_bits.specs.Number.{number_at, number_bytes}
use Rattle.doc_bits.proofs.Public.{number_at-number_bytes, length-number_bytes}
use Rattle.summary_set.specs.declared.values.Property.{Property}
use Rattle.summary_set.specs.Written.{padded_value, padded_len, pair_bytes}
use Rattle.summary_set.specs.Written.{first_offset}
use Rattle.summary_set.proofs.HeadLemmas.{skip, range_after, range_front}

-- where a value is in the set
unfoldable pub stands_at : List Property → ℕ → ℕ
stands_at values i = first_offset values + sum_by padded_len (take i values)

pub length-pair_bytes : (from : ℕ) (xs : List Property) → length (pair_bytes from xs) ≡ 8 * length xs
length-pair_bytes from [] = refl
length-pair_bytes from (x ∷ xs) =
    let ih = length-pair_bytes (from + padded_len x) xs in
    let a = length-append (number_bytes 4 x.id) (number_bytes 4 from ++ pair_bytes (from + padded_len x) xs) in
    let b = length-append (number_bytes 4 from) (pair_bytes (from + padded_len x) xs) in
    let d = length-number_bytes 4 x.id in
    let e = length-number_bytes 4 from in
    omega arith

pub skip_pair : (x y rest : List ℕ) (i at : ℕ) → length x ≡ 4 → length y ≡ 4 →
    number_at (x ++ (y ++ rest)) (8 * suc i + at)
    4 ≡ number_at rest (8 * i + at) 4
skip_pair x y rest i at one two =
    let place : 8 * suc i + at ≡ 4 + (4 + (8 * i + at)) = omega arith in
    ap (λ p. number_at (x ++ (y ++ rest)) p 4) place
    ∙ (skip x (y ++ rest) 4 (4 + (8 * i + at)) 4 one ∙ skip y rest 4 (8 * i + at) 4 two)

pub pair_id : (from : ℕ) (xs : List Property) (more : List ℕ) (i : ℕ) (x : Property) → slice_get xs i ≡ Some x →
    x.id < 2 ^
    32 → number_at (pair_bytes from xs ++ more) (8 * i + 0) 4 ≡ x.id
pair_id from [] more i x here small = absurd (cc (here))
pair_id from (y ∷ ys) more zero x here small =
    let rest : List ℕ = number_bytes 4 from ++ pair_bytes (from + padded_len y) ys in
    let same : y ≡ x = same_Some y x here in
    ap (λ b. number_at b 0 4) (append_assoc (number_bytes 4 y.id) rest more)
    ∙ subst (λ (z : Property). number_at (number_bytes 4 z.id ++ (rest ++ more)) 0 4 ≡ x.id) (sym same)
    (number_at-number_bytes 4 x.id (rest ++ more) small)
pair_id from (y ∷ ys) more (suc i) x here small =
    let a : List ℕ = number_bytes 4 y.id in
    let b : List ℕ = number_bytes 4 from in
    let rest : List ℕ = pair_bytes (from + padded_len y) ys in
    ap (λ l. number_at l (8 * suc i + 0) 4)
    (append_assoc a (b ++ rest) more ∙ ap (λ l. a ++ l) (append_assoc b rest more))
    ∙ (skip_pair a b (rest ++ more) i 0 (length-number_bytes 4 y.id) (length-number_bytes 4 from)
    ∙ pair_id (from + padded_len y) ys more i x here small)

pub pair_offset : (from : ℕ) (xs : List Property) (more : List ℕ) (i : ℕ) → i < length xs →
    from + sum_by padded_len (take i
    xs) < 2 ^ 32 → number_at (pair_bytes from xs ++ more) (8 * i + 4) 4 ≡ from + sum_by padded_len (take i xs)
pair_offset from [] more i low small = absurd (omega arith)
pair_offset from (y ∷ ys) more zero low small =
    let a : List ℕ = number_bytes 4 y.id in
    let b : List ℕ = number_bytes 4 from in
    let rest : List ℕ = pair_bytes (from + padded_len y) ys in
    let same : from ≡ from + 0 = omega arith in
    ap (λ l. number_at l 4 4) (append_assoc a (b ++ rest) more ∙ ap (λ l. a ++ l) (append_assoc b rest more))
    ∙ (skip a (b ++ (rest ++ more)) 4 0 4 (length-number_bytes 4 y.id)
    ∙ (number_at-number_bytes 4 from (rest ++ more) (omega arith) ∙ same))
pair_offset from (y ∷ ys) more (suc i) low small =
    let a : List ℕ = number_bytes 4 y.id in
    let b : List ℕ = number_bytes 4 from in
    let rest : List ℕ = pair_bytes (from + padded_len y) ys in
    let sum = sum_by-cons padded_len y (take i ys) in
    let place : from + padded_len y + sum_by padded_len (take i ys) ≡ from + sum_by padded_len (take (suc i) (y ∷ ys)) =
    omega arith in
    ap (λ l. number_at l (8 * suc i + 4) 4)
    (append_assoc a (b ++ rest) more ∙ ap (λ l. a ++ l) (append_assoc b rest more))
    ∙ (skip_pair a b (rest ++ more) i 4 (length-number_bytes 4 y.id) (length-number_bytes 4 from)
    ∙ (pair_offset (from + padded_len y) ys more i (omega arith) (omega arith) ∙ place))

-- ---- values

-- the first values are no longer than more of them
pub sum_take-le : (f : Property → ℕ) (xs : List Property) (j i : ℕ) → j ≤ i →
    sum_by f (take j xs) ≤ sum_by f (take i xs)
sum_take-le f [] zero i h = omega arith
sum_take-le f [] (suc j) zero h = absurd (omega arith)
sum_take-le f [] (suc j) (suc i) h = omega arith
sum_take-le f (x ∷ xs) zero i h = omega arith
sum_take-le f (x ∷ xs) (suc j) zero h = absurd (omega arith)
sum_take-le f (x ∷ xs) (suc j) (suc i) h =
    let ih = sum_take-le f xs j i (omega arith) in
    let a = sum_by-cons f x (take j xs) in
    let b = sum_by-cons f x (take i xs) in
    omega arith

pub sum_take-more : (f : Property → ℕ) (xs : List Property) (i : ℕ) (x : Property) → slice_get xs i ≡ Some x →
    sum_by f (take
    (suc i) xs) ≡ sum_by f (take i xs) + f x
sum_take-more f [] i x here = absurd (cc (here))
sum_take-more f (y ∷ ys) zero x here =
    let same : f y ≡ f x = ap f (same_Some y x here) in
    let a = sum_by-cons f y [] in
    omega arith
sum_take-more f (y ∷ ys) (suc i) x here =
    let ih = sum_take-more f ys i x here in
    let a = sum_by-cons f y (take (suc i) ys) in
    let b = sum_by-cons f y (take i ys) in
    omega arith

-- the bytes of one value among all
pub value_among : (xs : List Property) (i : ℕ) (x : Property) → slice_get xs i ≡ Some x → slice_range (flat_map (λ (p :
    Property). padded_value p.value) xs) (sum_by padded_len (take i xs))
    (sum_by padded_len (take i xs) + padded_len x) ≡ padded_value
    x.value
value_among [] i x here = absurd (cc (here))
value_among (y ∷ ys) zero x here =
    let more : List ℕ = flat_map (λ (p : Property). padded_value p.value) ys in
    let same : y ≡ x = same_Some y x here in
    subst (λ (z : Property). slice_range (padded_value z.value ++ more) 0 (0 + padded_len x) ≡ padded_value x.value)
    (sym same)
    (range_front (padded_value x.value) more (0 + padded_len x) (omega arith))
value_among (y ∷ ys) (suc i) x here =
    let front : List ℕ = padded_value y.value in
    let rest : List ℕ = flat_map (λ (p : Property). padded_value p.value) ys in
    let sum = sum_by-cons padded_len y (take i ys) in
    let from : sum_by padded_len (take (suc i) (y ∷ ys)) ≡ padded_len y + sum_by padded_len (take i ys) = omega arith in
    let to : sum_by padded_len (take (suc i) (y ∷ ys)) + padded_len x ≡ padded_len y + (sum_by padded_len (take i ys) +
    padded_len x) = omega arith in
    ap (λ n. slice_range (front ++ rest) n (sum_by padded_len (take (suc i) (y ∷ ys)) + padded_len x)) from
    ∙ (ap (λ n. slice_range (front ++ rest) (padded_len y + sum_by padded_len (take i ys)) n) to
    ∙ (range_after front rest (padded_len y) (sum_by padded_len (take i ys))
    (sum_by padded_len (take i ys) + padded_len x)
    refl ∙ value_among ys i x here))
