-- Lengths of items, and the lists of them.
use Rattle.std.proofs.Common.{◌≡◌, ℕ, zero, suc, refl, sym, ap, ◌∙◌, ◌+◌, ◌-◌, ◌<◌, ◌≤◌, List, [], ◌∷◌, ◌++◌, length}
use Rattle.std.proofs.Common.{map}
use Rattle.std.proofs.Common.{take, drop, set, get_or, arith, length-append, length-take-le, length-drop, add-one, Some}
use Rattle.std.specs.Prelude.{slice_get, slice_range}
use Rattle.std.specs.List.{splice}
use Rattle.std.proofs.lemmas.List.{map-append, take-map, take_all, take-take, take_more, take_more_set, map-set}
use Rattle.std.proofs.lemmas.List.{set_split, get_or-drop, take-append-drop}
use Rattle.std.proofs.lemmas.List.Sums.{sum_by-append, sum_by_more, sum_by-take-le, sum_by-cons}
use Rattle.std.proofs.lemmas.Option.{slice_get_within, get_or_from_slice_get}
use Rattle.doc_bits.proofs.Public.{from_map}
use Rattle.chunked_list.specs.Blocks.{total_units, IsSpotOf}

-- ---- sums

pub units-nil : {T : Type 0} (units : T → ℕ) → total_units units [] ≡ 0
unfolding total_units
units-nil units = refl

pub units-one : {T : Type 0} (units : T → ℕ) (x : T) → total_units units (x ∷ []) ≡ units x
unfolding total_units
units-one units x = omega (arith, sum_by-cons units x [])

pub units-append : {T : Type 0} (units : T → ℕ) (xs ys : List T) → total_units units (xs ++ ys)
    ≡ total_units units xs + total_units units ys
unfolding total_units
units-append units xs ys = sum_by-append units xs ys

pub units-cons : {T : Type 0} (units : T → ℕ) (x : T) (xs : List T) → total_units units (x ∷ xs)
    ≡ units x + total_units units xs
unfolding total_units
units-cons units x xs = sum_by-cons units x xs

pub units-take-le : {T : Type 0} (units : T → ℕ) (xs : List T) (i : ℕ) → total_units units (take i xs) ≤ total_units
    units xs
unfolding total_units
units-take-le units xs i = sum_by-take-le units xs i

-- an item more of a front
pub units_more : {T : Type 0} (units : T → ℕ) (xs : List T) (i : ℕ) (d : T) → i < length xs →
    total_units units (take (i + 1) xs) ≡ total_units units (take i xs) + units (get_or xs i d)
unfolding total_units
units_more units xs i d within = sum_by_more units xs i d within

pub units_at : {T : Type 0} (units : T → ℕ) (xs : List T) (i : ℕ) (x : T) → slice_get xs i ≡ Some x →
    total_units units (take (i + 1) xs) ≡ total_units units (take i xs) + units x
units_at units xs i x is =
    units_more units xs i x (slice_get_within xs i x is)
    ∙ ap (λ y. total_units units (take i xs) + units y) (get_or_from_slice_get xs i x x is)

-- all items
pub units_all : {T : Type 0} (units : T → ℕ) (xs : List T) (i : ℕ) → length xs ≤ i → total_units units (take i xs)
    ≡ total_units units xs
units_all units xs i all = ap (total_units units) (take_all i xs all)

-- ---- a walk over lengths

-- what is at a place of a front
pub slice_get_front : {A : Type 0} (k : ℕ) (xs : List A) (i : ℕ) → i < k → slice_get (take k xs) i ≡ slice_get xs i
slice_get_front zero xs i low = absurd (omega arith)
slice_get_front (suc k) [] i low = refl
slice_get_front (suc k) (x ∷ xs) zero low = refl
slice_get_front (suc k) (x ∷ xs) (suc i) low = slice_get_front k xs i (omega arith)

-- the item of the unit is this one
pub spot_here : {T : Type 0} (units : T → ℕ) (xs : List T) (lens : List ℕ) (i u cp within : ℕ) →
    take (length xs) lens ≡ map units xs →
    i < length xs → slice_get lens i ≡ Some u → within < u → total_units units (take i xs) + within ≡ cp
    → IsSpotOf units xs cp (record { item = i; within = within })
spot_here {T = T} units xs lens i u cp within is low found inside here =
    let item : (x : T) × ((slice_get xs i ≡ Some x) × (units x ≡ u)) =
    from_map units xs i u (sym (ap (λ (l : List ℕ). slice_get l i) is) ∙ slice_get_front (length xs) lens i low ∙
    found) in
    record { item = item.0; there = item.1.0; inside = omega (arith, item.1.1); here = here }

-- it is behind this one
pub spot_behind : {T : Type 0} (units : T → ℕ) (xs : List T) (lens : List ℕ) (i u cp within : ℕ) →
    take (length xs) lens ≡ map units xs →
    i < length xs → slice_get lens i ≡ Some u → u ≤ within → total_units units (take i xs) + within ≡ cp
    → total_units units (take (i + 1) xs) + (within - u) ≡ cp
spot_behind {T = T} units xs lens i u cp within is low found beyond here =
    let item : (x : T) × ((slice_get xs i ≡ Some x) × (units x ≡ u)) =
    from_map units xs i u (sym (ap (λ (l : List ℕ). slice_get l i) is) ∙ slice_get_front (length xs) lens i low ∙
    found) in
    omega (arith, item.1.1, units_at units xs i item.0 item.1.0)

-- ---- an item more or less

drop_of_map : {A B : Type 0} (f : A → B) (n : ℕ) (xs : List A) → drop n (map f xs) ≡ map f (drop n xs)
drop_of_map f zero xs = refl
drop_of_map f (suc n) [] = refl
drop_of_map f (suc n) (x ∷ xs) = drop_of_map f n xs

pub map_spliced : {A B : Type 0} (f : A → B) (xs ys : List A) (i j : ℕ) →
    map f (take i xs ++ (ys ++ drop j xs)) ≡ take i (map f xs) ++ (map f ys ++ drop j (map f xs))
map_spliced f xs ys i j =
    map-append f (take i xs) (ys ++ drop j xs)
    ∙ ap (λ t. map f (take i xs) ++ t) (map-append f ys (drop j xs))
    ∙ ap (λ t. t ++ (map f ys ++ map f (drop j xs))) (sym (take-map f i xs))
    ∙ ap (λ t. take i (map f xs) ++ (map f ys ++ t)) (sym (drop_of_map f j xs))

-- the lengths before an item that is put or taken out
pub before_put : {T : Type 0} (units : T → ℕ) (xs ys : List T) (lens : List ℕ) (i : ℕ) → take (length xs) lens
    ≡ map units xs →
    i ≤ length xs → take i ys ≡ take i xs → take i lens ≡ take i (map units ys)
before_put units xs ys lens i is within same =
    sym (take-take i (length xs) lens within)
    ∙ ap (take i) is
    ∙ take-map units i xs
    ∙ ap (map units) (sym same)
    ∙ sym (take-map units i ys)

-- a length more is told
pub told_more : {T : Type 0} (units : T → ℕ) (xs : List T) (lens new : List ℕ) (i u : ℕ) (d : T) → i < length xs →
    length xs ≤ length lens → take i lens ≡ take i (map units xs) → u ≡ units (get_or xs i d) → new ≡ set lens i u
    → take (i + 1) new ≡ take (i + 1) (map units xs)
told_more units xs lens new i u d within long before unit put =
    let less : i < length lens = omega arith in
    ap (take (i + 1)) put
    ∙ take_more_set lens i u less
    ∙ ap (λ (t : List ℕ). t ++ u ∷ []) before
    ∙ ap (λ (n : ℕ). take i (map units xs) ++ n ∷ []) unit
    ∙ ap (λ (t : List ℕ). t ++ units (get_or xs i d) ∷ []) (take-map units i xs)
    ∙ sym (map-append units (take i xs) (get_or xs i d ∷ []))
    ∙ ap (map units) (sym (take_more xs i d within))
    ∙ sym (take-map units (i + 1) xs)

pub length_put : {A : Type 0} (xs new : List A) (x : A) (i : ℕ) → i ≤ length xs → new ≡ take i xs ++ (x ∷ drop i xs) →
    length new ≡ length xs + 1
length_put xs new x i within put =
    let e = ap length put in
    omega (arith, e, length-append (take i xs) (x ∷ drop i xs), length-take-le i xs within, length-drop i xs)

pub length_cut : {A : Type 0} (xs new : List A) (i : ℕ) → i < length xs → new ≡ take i xs ++ drop (i + 1) xs →
    length new + 1 ≡ length xs
length_cut xs new i within cut =
    let e = ap length cut in
    let le : i ≤ length xs = omega arith in
    omega (arith, e, length-append (take i xs) (drop (i + 1) xs), length-take-le i xs le, length-drop (i + 1) xs)

-- the numbers of a list with an element more
pub numbers_put : {T : Type 0} (units : T → ℕ) (xs new : List T) (x : T) (lens more : List ℕ) (i u : ℕ) → lens
    ≡ map units xs →
    u ≡ units x → new ≡ take i xs ++ (x ∷ drop i xs) → more ≡ take i lens ++ (u ∷ drop i lens) → more ≡ map units new
numbers_put units xs new x lens more i u is unit put told =
    told
    ∙ ap (λ (l : List ℕ). take i l ++ (u ∷ drop i l)) is
    ∙ ap (λ (n : ℕ). take i (map units xs) ++ (n ∷ drop i (map units xs))) unit
    ∙ sym (map_spliced units xs (x ∷ []) i i)
    ∙ ap (map units) (sym put)

-- the numbers of a list with another element
pub numbers_set : {T : Type 0} (units : T → ℕ) (xs new : List T) (x : T) (lens more : List ℕ) (i u : ℕ) → lens
    ≡ map units xs →
    u ≡ units x → new ≡ set xs i x → more ≡ set lens i u → more ≡ map units new
numbers_set units xs new x lens more i u is unit put told =
    told
    ∙ ap (λ (l : List ℕ). set l i u) is
    ∙ ap (λ (n : ℕ). set (map units xs) i n) unit
    ∙ sym (map-set units xs i x)
    ∙ ap (map units) (sym put)

-- a list with another element
pub set_spliced : {A : Type 0} (xs : List A) (i : ℕ) (x : A) → i < length xs → set xs i x ≡ splice xs i (i + 1) (x ∷ [])
set_spliced {A = A} xs i x within =
    set_split xs i x within ∙ ap (λ (n : ℕ). take i xs ++ x ∷ drop n xs) (sym (add-one i))

-- ---- a range

-- an item more of a range
pub range_push : {A : Type 0} (xs : List A) (from i : ℕ) (x : A) → from ≤ i → slice_get xs i ≡ Some x →
    slice_range xs from i ++ x ∷ [] ≡ slice_range xs from (i + 1)
range_push {A = A} xs from i x le is =
    let within = slice_get_within xs i x is in
    let more : i + 1 - from ≡ (i - from) + 1 = omega arith in
    let place : from + (i - from) ≡ i = omega arith in
    let low : i - from < length (drop from xs) = omega (arith, length-drop from xs) in
    let read : get_or (drop from xs) (i - from) x ≡ x =
    get_or-drop from xs (i - from) x ∙ ap (λ (n : ℕ). get_or xs n x) place ∙ get_or_from_slice_get xs i x x is in
    sym (ap (λ (n : ℕ). take n (drop from xs)) more
    ∙ take_more (drop from xs) (i - from) x low
    ∙ ap (λ (y : A). take (i - from) (drop from xs) ++ y ∷ []) read)

-- the units with an item more
pub units_put : {T : Type 0} (units : T → ℕ) (xs new : List T) (x : T) (i : ℕ) → new ≡ take i xs ++ (x ∷ drop i xs) →
    total_units units new ≡ total_units units xs + units x
units_put units xs new x i put =
    omega (
      arith,
      ap (total_units units) put,
      units-append units (take i xs) (x ∷ drop i xs),
      units-cons units x (drop i xs),
      units-append units (take i xs) (drop i xs),
      ap (total_units units) (take-append-drop i xs),
    )
