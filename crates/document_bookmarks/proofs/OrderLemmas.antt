-- A list that a sort left is the one that is put in order.
use Rattle.std.proofs.Common.{◌≡◌, refl, sym, ap, subst, ◌∙◌, ℕ, zero, suc, ◌+◌, ◌<◌, Bool, true, false, cond, List}
use Rattle.std.proofs.Common.{[]}
use Rattle.std.proofs.Common.{◌∷◌, ◌++◌, ◌≤◌, length, take, drop, get_or, arith, append_assoc, Ordering}
use Rattle.std.proofs.lemmas.List.{take_more, drop_more, drop_all}
use Rattle.std.specs.Prelude.{⊤}
use Rattle.std.specs.Ordering.{is_lt, is_gt, is_le, ordering_reverse}
use Rattle.std.specs.declared.cmp.Ordering.TheVariants.{Less, Equal, Greater}
use Rattle.std.specs.List.{sum_by}
use Rattle.std.specs.List.Sorted.{IsPermutation, IsSorted}
use Rattle.std.specs.Cmp.{IsTotalOrder}
use Rattle.std.specs.FinMap.{IsAntisymmetric}
use Rattle.std.proofs.lemmas.Cmp.{upto, tied_itself}
use Rattle.std.proofs.lemmas.List.Sorted.{ranks_by, sorted_far, sum_by-IsPermutation}
use Rattle.std.proofs.lemmas.List.Sums.{sum_by-cons}
use Rattle.std.proofs.lemmas.List.Elements.{All-cons, All-head, All-tail}
use Rattle.std.specs.Prelude.{All}
use Rattle.std.specs.List.{filter}
use Rattle.document_bookmarks.specs.Order.{put_in, in_order}

-- ---- none of a list comes before an entry

abbrev pub NoneBefore : {K : Type 0} → (K → K → Ordering) → K → List K → Type 0
NoneBefore cmp x [] = ⊤
NoneBefore cmp x (y ∷ ys) = (is_gt (cmp x y) ≡ false) × NoneBefore cmp x ys

abbrev pub Rises : {K : Type 0} → (K → K → Ordering) → List K → Type 0
Rises cmp [] = ⊤
Rises cmp (x ∷ xs) = NoneBefore cmp x xs × Rises cmp xs

-- ---- what the tests of an answer say

turned_gt : (o : Ordering) → is_lt o ≡ false → is_gt (ordering_reverse o) ≡ false
turned_gt Less h = absurd (cc h)
turned_gt Equal h = refl
turned_gt Greater h = refl

behind : (o : Ordering) → is_le o ≡ false → is_gt (ordering_reverse o) ≡ false
behind Less h = absurd (cc h)
behind Equal h = absurd (cc h)
behind Greater h = refl

ahead : (o : Ordering) → is_le o ≡ true → is_gt o ≡ false
ahead Less h = refl
ahead Equal h = refl
ahead Greater h = absurd (cc h)

tied : (o : Ordering) → is_gt o ≡ false → is_gt (ordering_reverse o) ≡ false → o ≡ Equal
tied Less one other = absurd (cc other)
tied Equal one other = refl
tied Greater one other = absurd (cc one)

-- ---- a list that rises is one, whatever order its entries were in

abbrev one_if : Bool → ℕ
one_if b = cond b 1 0

abbrev before : {K : Type 0} → (K → K → Ordering) → K → K → ℕ
before cmp x y = one_if (is_gt (cmp x y))

none_counted : {K : Type 0} (cmp : K → K → Ordering) (x : K) (ys : List K) → NoneBefore cmp x ys →
    sum_by (before cmp x) ys ≡ 0
none_counted cmp x [] none = refl
none_counted cmp x (y ∷ ys) none =
    let first : before cmp x y ≡ 0 = ap one_if none.0 in
    omega (arith, sum_by-cons (before cmp x) y ys, first, none_counted cmp x ys none.1)

counted_none : (b : Bool) → one_if b ≡ 0 → b ≡ false
counted_none true h = absurd (omega (arith, h))
counted_none false h = refl

abbrev pub AreCounted : {K : Type 0} → List K → List K → Type 0
AreCounted {K} xs ys = (f : K → ℕ) → sum_by f xs ≡ sum_by f ys

head_before : {K : Type 0} (cmp : K → K → Ordering) → IsTotalOrder cmp → (y z : K) (ys zs : List K) →
    NoneBefore cmp z zs → AreCounted (y ∷ ys) (z ∷ zs) → is_gt (cmp z y) ≡ false
head_before cmp total y z ys zs none same =
    let f = before cmp z in
    let own : f z ≡ 0 = ap (λ (o : Ordering). one_if (is_gt o)) (tied_itself total z) in
    counted_none (is_gt (cmp z y))
    (omega (arith, sum_by-cons f y ys, sum_by-cons f z zs, none_counted cmp z zs none, own, same f))

one_order : {K : Type 0} (cmp : K → K → Ordering) → IsTotalOrder cmp → IsAntisymmetric cmp → (ys zs : List K) →
    Rises cmp ys → Rises cmp zs → AreCounted ys zs → ys ≡ zs
one_order cmp total alone [] [] up down same = refl
one_order cmp total alone [] (z ∷ zs) up down same =
    absurd (omega (arith, sum_by-cons (λ x. 1) z zs, same (λ x. 1)))
one_order cmp total alone (y ∷ ys) [] up down same =
    absurd (omega (arith, sum_by-cons (λ x. 1) y ys, same (λ x. 1)))
one_order {K} cmp total alone (y ∷ ys) (z ∷ zs) up down same =
    let one = head_before cmp total y z ys zs down.0 same in
    let other = head_before cmp total z y zs ys up.0 (λ f. sym (same f)) in
    let first : y ≡ z =
    alone y z (tied (cmp y z) other (subst (λ (o : Ordering). is_gt o ≡ false) (total.antisymm z y) one)) in
    let rest : AreCounted ys zs = λ f.
    omega (arith, sum_by-cons f y ys, sum_by-cons f z zs, ap f first, same f) in
    ap (λ (x : K). x ∷ ys) first ∙ ap (λ (xs : List K). z ∷ xs) (one_order cmp total alone ys zs up.1 down.1 rest)

-- ---- what a sort leaves rises

none_from : {K : Type 0} (cmp : K → K → Ordering) (x : K) (ys : List K) →
    ((k : ℕ) (d : K) → k < length ys → is_gt (cmp x (get_or ys k d)) ≡ false) → NoneBefore cmp x ys
none_from cmp x [] each = tt
none_from cmp x (y ∷ ys) each =
    (each 0 y (omega arith), none_from cmp x ys (λ k d below. each (suc k) d (omega (arith, below))))

pub sorted_rises : {K : Type 0} (cmp : K → K → Ordering) → IsTotalOrder cmp → (xs : List K) → IsSorted cmp xs →
    Rises cmp xs
sorted_rises cmp total [] sorted = tt
sorted_rises cmp total (x ∷ xs) sorted = (
  none_from cmp x xs (λ k d below.
      subst (λ (o : Ordering). is_gt o ≡ false) (sym (total.antisymm x (get_or xs k d)))
      (turned_gt (cmp (get_or xs k d) x)
      (sorted_far (λ a b. is_lt (cmp a b)) (ranks_by total (λ a. a)) (x ∷ xs) sorted 0 (suc k) d (omega arith)
      (omega (arith, below))))),
  sorted_rises cmp total xs (λ k d low below.
      subst (λ (n : ℕ). is_lt (cmp (get_or (x ∷ xs) n d) (get_or xs k d)) ≡ false)
      (let at : suc k + 1 ≡ suc (k + 1) = omega arith in at)
      (sorted (suc k) d (omega arith) (omega (arith, below)))),
)

-- ---- what is put in order rises, and has the same entries

none_put : {K : Type 0} (cmp : K → K → Ordering) (y x : K) (ys : List K) → is_gt (cmp y x) ≡ false →
    NoneBefore cmp y ys → NoneBefore cmp y (put_in cmp x ys)
unfolding put_in
none_put cmp y x [] own none = (own, tt)
none_put {K} cmp y x (z ∷ zs) own none =
    elim (is_le (cmp x z)) as (λ b. NoneBefore cmp y (cond b (x ∷ z ∷ zs) (z ∷ put_in cmp x zs))) [
      | true ↦ (own, none)
      | false ↦ (none.0, none_put cmp y x zs own none.1)
    ]

none_further : {K : Type 0} (cmp : K → K → Ordering) → IsTotalOrder cmp → (x y : K) (ys : List K) →
    is_gt (cmp x y) ≡ false → NoneBefore cmp y ys → NoneBefore cmp x ys
none_further cmp total x y [] own none = tt
none_further cmp total x y (z ∷ zs) own none =
    (upto total x y z own none.0, none_further cmp total x y zs own none.1)

put_by : {K : Type 0} (cmp : K → K → Ordering) → IsTotalOrder cmp → (x y : K) (ys : List K) (b : Bool) →
    is_le (cmp x y) ≡ b → Rises cmp (y ∷ ys) → Rises cmp (put_in cmp x ys) →
    Rises cmp (cond b (x ∷ y ∷ ys) (y ∷ put_in cmp x ys))
put_by cmp total x y ys true is up later =
    let own = ahead (cmp x y) is in ((own, none_further cmp total x y ys own up.0), up)
put_by cmp total x y ys false is up later =
    let own : is_gt (cmp y x) ≡ false =
    subst (λ (o : Ordering). is_gt o ≡ false) (sym (total.antisymm y x)) (behind (cmp x y) is) in
    (none_put cmp y x ys own up.0, later)

put_rises : {K : Type 0} (cmp : K → K → Ordering) → IsTotalOrder cmp → (x : K) (ys : List K) → Rises cmp ys →
    Rises cmp (put_in cmp x ys)
unfolding put_in
put_rises cmp total x [] up = (tt, tt)
put_rises {K} cmp total x (y ∷ ys) up =
    put_by cmp total x y ys (is_le (cmp x y)) refl up (put_rises cmp total x ys up.1)

pub order_rises : {K : Type 0} (cmp : K → K → Ordering) → IsTotalOrder cmp → (xs : List K) → Rises cmp (in_order cmp xs)
unfolding in_order
order_rises cmp total [] = tt
order_rises cmp total (x ∷ xs) = put_rises cmp total x (in_order cmp xs) (order_rises cmp total xs)

pub put_counted : {K : Type 0} (cmp : K → K → Ordering) (x : K) (ys : List K) → AreCounted (put_in cmp x ys) (x ∷ ys)
unfolding put_in
put_counted cmp x [] f = refl
put_counted {K} cmp x (y ∷ ys) f =
    elim (is_le (cmp x y)) as
    (λ b. sum_by f (cond b (x ∷ y ∷ ys) (y ∷ put_in cmp x ys)) ≡ sum_by f (x ∷ y ∷ ys)) [
      | true ↦ refl
      | false ↦ omega (
        arith,
        put_counted cmp x ys f,
        sum_by-cons f y (put_in cmp x ys),
        sum_by-cons f x ys,
        sum_by-cons f x (y ∷ ys),
        sum_by-cons f y ys,
      )
    ]

pub order_counted : {K : Type 0} (cmp : K → K → Ordering) (xs : List K) → AreCounted (in_order cmp xs) xs
unfolding in_order
order_counted cmp [] f = refl
order_counted cmp (x ∷ xs) f =
    omega (
      arith,
      put_counted cmp x (in_order cmp xs) f,
      sum_by-cons f x (in_order cmp xs),
      sum_by-cons f x xs,
      order_counted cmp xs f,
    )

-- ---- the law

pub sorted_is_in_order : {K : Type 0} (cmp : K → K → Ordering) → IsTotalOrder cmp → IsAntisymmetric cmp →
    (xs ys : List K) → IsPermutation xs ys → IsSorted cmp ys → ys ≡ in_order cmp xs
sorted_is_in_order cmp total alone xs ys moved sorted =
    one_order cmp total alone ys (in_order cmp xs) (sorted_rises cmp total ys sorted) (order_rises cmp total xs)
    (λ f. sum_by-IsPermutation f xs ys moved ∙ sym (order_counted cmp xs f))

-- what was put in order by other calls
pub counted_in_order : {K : Type 0} (cmp : K → K → Ordering) → IsTotalOrder cmp → IsAntisymmetric cmp →
    (xs ys : List K) → AreCounted xs ys → in_order cmp xs ≡ in_order cmp ys
counted_in_order cmp total alone xs ys same =
    one_order cmp total alone (in_order cmp xs) (in_order cmp ys) (order_rises cmp total xs) (order_rises cmp total ys)
    (λ f. order_counted cmp xs f ∙ (same f ∙ sym (order_counted cmp ys f)))

-- a list in order stays as it is
pub sorted_stays : {K : Type 0} (cmp : K → K → Ordering) → IsTotalOrder cmp → IsAntisymmetric cmp → (xs : List K) →
    IsSorted cmp xs → in_order cmp xs ≡ xs
sorted_stays cmp total alone xs sorted =
    one_order cmp total alone (in_order cmp xs) xs (order_rises cmp total xs) (sorted_rises cmp total xs sorted)
    (order_counted cmp xs)

-- ---- an entry is put at the place that a walk finds

abbrev pub HasPassed : {K : Type 0} → (K → K → Ordering) → K → List K → ℕ → Type 0
HasPassed cmp x xs i = put_in cmp x xs ≡ take i xs ++ put_in cmp x (drop i xs)

put_before : {K : Type 0} (cmp : K → K → Ordering) (x y : K) (ys : List K) (b : Bool) → is_le (cmp x y) ≡ b →
    put_in cmp x (y ∷ ys) ≡ cond b (x ∷ y ∷ ys) (y ∷ put_in cmp x ys)
unfolding put_in
put_before {K} cmp x y ys b is = ap (λ (t : Bool). cond t (x ∷ y ∷ ys) (y ∷ put_in cmp x ys)) is

put_alone : {K : Type 0} (cmp : K → K → Ordering) (x : K) → put_in cmp x [] ≡ x ∷ []
unfolding put_in
put_alone cmp x = refl

pub passed_next : {K : Type 0} (cmp : K → K → Ordering) (x y : K) (xs : List K) (i : ℕ) → i < length xs →
    is_le (cmp x (get_or xs i y)) ≡ false → HasPassed cmp x xs i → HasPassed cmp x xs (i + 1)
passed_next {K} cmp x y xs i low later passed =
    let rest = put_in cmp x (drop (i + 1) xs) in
    passed
    ∙ ap (λ (t : List K). take i xs ++ put_in cmp x t) (drop_more xs i y low)
    ∙ ap (λ (t : List K). take i xs ++ t) (put_before cmp x (get_or xs i y) (drop (i + 1) xs) false later)
    ∙ sym (append_assoc (take i xs) (get_or xs i y ∷ []) rest)
    ∙ ap (λ (t : List K). t ++ rest) (sym (take_more xs i y low))

pub passed_here : {K : Type 0} (cmp : K → K → Ordering) (x y : K) (xs : List K) (i : ℕ) → i < length xs →
    is_le (cmp x (get_or xs i y)) ≡ true → HasPassed cmp x xs i → take i xs ++ (x ∷ drop i xs) ≡ put_in cmp x xs
passed_here {K} cmp x y xs i low before passed =
    let cut = drop_more xs i y low in
    ap (λ (t : List K). take i xs ++ (x ∷ t)) cut
    ∙ ap (λ (t : List K). take i xs ++ t) (sym (put_before cmp x (get_or xs i y) (drop (i + 1) xs) true before))
    ∙ ap (λ (t : List K). take i xs ++ put_in cmp x t) (sym cut)
    ∙ sym passed

pub passed_all : {K : Type 0} (cmp : K → K → Ordering) (x : K) (xs : List K) (i : ℕ) → length xs ≤ i →
    HasPassed cmp x xs i → take i xs ++ (x ∷ drop i xs) ≡ put_in cmp x xs
passed_all {K} cmp x xs i end passed =
    let none = drop_all i xs end in
    ap (λ (t : List K). take i xs ++ (x ∷ t)) none
    ∙ ap (λ (t : List K). take i xs ++ t) (sym (put_alone cmp x))
    ∙ ap (λ (t : List K). take i xs ++ put_in cmp x t) (sym none)
    ∙ sym passed

-- ---- what rises is sorted

not_under : (o : Ordering) → is_gt o ≡ false → is_lt (ordering_reverse o) ≡ false
not_under Less h = refl
not_under Equal h = refl
not_under Greater h = absurd (cc h)

sorted_cons : {K : Type 0} (cmp : K → K → Ordering) → IsTotalOrder cmp → (x : K) (xs : List K) → NoneBefore cmp x xs →
    IsSorted cmp xs → (k : ℕ) (d : K) → k + 1 < length (x ∷ xs) →
    is_lt (cmp (get_or (x ∷ xs) (k + 1) d) (get_or (x ∷ xs) k d)) ≡ false
sorted_cons cmp total x [] none rest zero d below = absurd (omega (arith, below))
sorted_cons cmp total x (y ∷ ys) none rest zero d below =
    subst (λ (o : Ordering). is_lt o ≡ false) (sym (total.antisymm y x)) (not_under (cmp x y) none.0)
sorted_cons cmp total x xs none rest (suc k) d below =
    subst (λ (n : ℕ). is_lt (cmp (get_or (x ∷ xs) n d) (get_or xs k d)) ≡ false)
    (let at : suc (k + 1) ≡ suc k + 1 = omega arith in at)
    (rest k d (omega arith) (omega (arith, below)))

pub rises_sorted : {K : Type 0} (cmp : K → K → Ordering) → IsTotalOrder cmp → (xs : List K) → Rises cmp xs →
    IsSorted cmp xs
rises_sorted cmp total [] up = λ k d low below. absurd (omega (arith, below))
rises_sorted cmp total (x ∷ xs) up = λ k d low below.
    sorted_cons cmp total x xs up.0 (rises_sorted cmp total xs up.1) k d below

pub in_order_sorted : {K : Type 0} (cmp : K → K → Ordering) → IsTotalOrder cmp → (xs : List K) →
    IsSorted cmp (in_order cmp xs)
in_order_sorted cmp total xs = rises_sorted cmp total (in_order cmp xs) (order_rises cmp total xs)

pub put_sorted : {K : Type 0} (cmp : K → K → Ordering) → IsTotalOrder cmp → (x : K) (xs : List K) → IsSorted cmp xs →
    IsSorted cmp (put_in cmp x xs)
put_sorted cmp total x xs sorted =
    rises_sorted cmp total (put_in cmp x xs) (put_rises cmp total x xs (sorted_rises cmp total xs sorted))

none_filter : {K : Type 0} (cmp : K → K → Ordering) (p : K → Bool) (x : K) (ys : List K) → NoneBefore cmp x ys →
    NoneBefore cmp x (filter p ys)
none_filter cmp p x [] none = tt
none_filter cmp p x (y ∷ ys) none =
    elim (p y) as (λ b. NoneBefore cmp x (cond b (y ∷ filter p ys) (filter p ys))) [
      | true ↦ (none.0, none_filter cmp p x ys none.1)
      | false ↦ none_filter cmp p x ys none.1
    ]

filter_rises : {K : Type 0} (cmp : K → K → Ordering) (p : K → Bool) (xs : List K) → Rises cmp xs →
    Rises cmp (filter p xs)
filter_rises cmp p [] up = tt
filter_rises cmp p (x ∷ xs) up =
    elim (p x) as (λ b. Rises cmp (cond b (x ∷ filter p xs) (filter p xs))) [
      | true ↦ (none_filter cmp p x xs up.0, filter_rises cmp p xs up.1)
      | false ↦ filter_rises cmp p xs up.1
    ]

pub filter_sorted : {K : Type 0} (cmp : K → K → Ordering) → IsTotalOrder cmp → (p : K → Bool) (xs : List K) →
    IsSorted cmp xs → IsSorted cmp (filter p xs)
filter_sorted cmp total p xs sorted =
    rises_sorted cmp total (filter p xs) (filter_rises cmp p xs (sorted_rises cmp total xs sorted))

-- ---- what holds of each

pub all_put : {K : Type 0} (P : K → Type 0) (cmp : K → K → Ordering) (x : K) (ys : List K) → P x → All P ys →
    All P (put_in cmp x ys)
unfolding put_in
all_put P cmp x [] here all = All-cons P x [] here all
all_put P cmp x (y ∷ ys) here all =
    elim (is_le (cmp x y)) as (λ b. All P (cond b (x ∷ y ∷ ys) (y ∷ put_in cmp x ys))) [
      | true ↦ All-cons P x (y ∷ ys) here all
      | false ↦
          All-cons P y (put_in cmp x ys) (All-head P y ys all) (all_put P cmp x ys here (All-tail P y ys all))
    ]

pub all_in_order : {K : Type 0} (P : K → Type 0) (cmp : K → K → Ordering) (xs : List K) → All P xs →
    All P (in_order cmp xs)
unfolding in_order
all_in_order P cmp [] all = all
all_in_order P cmp (x ∷ xs) all =
    all_put P cmp x (in_order cmp xs) (All-head P x xs all) (all_in_order P cmp xs (All-tail P x xs all))
