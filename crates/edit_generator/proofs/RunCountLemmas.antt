-- How many stretches a list has, and how many a change adds. It belongs to plain_doc.
use Rattle.std.proofs.Common.{◌≡◌, ◌∙◌, refl, sym, ap, ℕ, ◌+◌, ◌≤◌, Bool, true, false, cond, List, [], ◌∷◌}
use Rattle.std.proofs.Common.{◌++◌, length, map, arith}
use Rattle.std.specs.Prelude.{if◌then◌else◌}
use Rattle.doc_model.specs.Stretches.{stretch_from, stretches}

abbrev pub count : {A : Type 0} → (A → A → Bool) → List A → ℕ
count joins xs = length (stretches joins xs)

first_count : {A : Type 0} (joins : A → A → Bool) (x y : A) (ys : List A) (more : List (List A)) →
    length (stretch_from joins x ((y ∷ ys) ∷ more)) ≡ cond (joins x y) 0 1 + length ((y ∷ ys) ∷ more)
first_count joins x y ys more =
    elim (joins x y) as (λ b. length (if b then (x ∷ y ∷ ys) ∷ more else (x ∷ []) ∷ (y ∷ ys) ∷ more) ≡ cond b 0 1 +
    length ((y ∷ ys) ∷ more)) [
      | true ↦ omega arith
      | false ↦ omega arith
    ]

next_count : {A : Type 0} (joins : A → A → Bool) (x y : A) (parts : List (List A)) → length (stretch_from joins x
    (stretch_from joins y parts)) ≡ cond (joins x y) 0 1 + length (stretch_from joins y parts)
next_count joins x y [] = first_count joins x y [] []
next_count joins x y ([] ∷ more) = first_count joins x y [] more
next_count joins x y ((z ∷ zs) ∷ more) =
    elim (joins y z) as (λ b. length (stretch_from joins x (if b then (y ∷ z ∷ zs) ∷ more else (y ∷ []) ∷ (z ∷ zs) ∷
    more)) ≡ cond (joins x y) 0 1 + length (if b then (y ∷ z ∷ zs) ∷ more else (y ∷ []) ∷ (z ∷ zs) ∷ more)) [
      | true ↦ first_count joins x y (z ∷ zs) more
      | false ↦ first_count joins x y [] ((z ∷ zs) ∷ more)
    ]

-- an element before others is one stretch more where it does not join the first of them
pub count_before : {A : Type 0} (joins : A → A → Bool) (x y : A) (more : List A) → count joins (x ∷ y ∷ more) ≡ cond
    (joins x y) 0 1 + count joins (y ∷ more)
unfolding stretches
count_before joins x y more = next_count joins x y (stretches joins more)

count_none : {A : Type 0} (joins : A → A → Bool) → count joins [] ≡ 0
unfolding stretches
count_none joins = refl

pub count_one : {A : Type 0} (joins : A → A → Bool) (x : A) → count joins (x ∷ []) ≡ 1
unfolding stretches
count_one joins x = refl

one_at_most : (b : Bool) → cond b 0 1 ≤ 1
one_at_most true = omega arith
one_at_most false = omega arith

-- ---- elements that are put

-- an element that joins the next one and that others join as they join that
pub record StandsFor {A : Type 0} (joins : A → A → Bool) (x y : A) : Type 0 where
  pub joined : joins x y ≡ true
  pub alike : (w : A) → joins w x ≡ joins w y

-- one that others join so is one stretch more at most
pub one_put : {A : Type 0} (joins : A → A → Bool) (front : List A) (x y : A) (more : List A) →
    ((w : A) → joins w x ≡ joins w y) → count joins (front ++ x ∷ y ∷ more) ≡ cond (joins x y) 0 1 + count joins
    (front ++ y ∷ more)
one_put joins [] x y more same = count_before joins x y more
one_put joins (w ∷ []) x y more same =
    let long = count_before joins w x (y ∷ more) in
    let next = count_before joins x y more in
    let short = count_before joins w y more in
    let alike = ap {B = ℕ} (λ b. cond b 0 1) (same w) in
    omega (arith, long, next, short, alike)
one_put joins (w ∷ v ∷ front) x y more same =
    let long = count_before joins w v (front ++ x ∷ y ∷ more) in
    let rest = one_put joins (v ∷ front) x y more same in
    let short = count_before joins w v (front ++ y ∷ more) in
    omega (arith, long, rest, short)

pub one_more_put : {A : Type 0} (joins : A → A → Bool) (front : List A) (x y : A) (more : List A) →
    ((w : A) → joins w x ≡ joins w y) → count joins (front ++ x ∷ y ∷ more) ≤ count joins (front ++ y ∷ more) + 1
one_more_put joins front x y more same =
    let put = one_put joins front x y more same in
    let few = one_at_most (joins x y) in
    omega (arith, put, few)

-- and none where it joins the next one
pub none_put : {A : Type 0} (joins : A → A → Bool) (front : List A) (x y : A) (more : List A) → StandsFor joins x y →
    count joins (front ++ x ∷ y ∷ more) ≡ count joins (front ++ y ∷ more)
none_put joins front x y more same =
    let put = one_put joins front x y more same.alike in
    let none = ap {B = ℕ} (λ b. cond b 0 1) same.joined in
    omega (arith, put, none)

-- neither are several
pub several_put : {A B : Type 0} (joins : A → A → Bool) (make : B → A) (units : List B) (front : List A) (y : A)
    (more : List A) → ((unit : B) → StandsFor joins (make unit) y) → count joins (front ++ (map make units ++ y ∷
    more)) ≡ count joins (front ++ y ∷ more)
several_put joins make [] front y more same = refl
several_put joins make (unit ∷ []) front y more same = none_put joins front (make unit) y more (same unit)
several_put joins make (unit ∷ other ∷ units) front y more same =
    none_put joins front (make unit) (make other) (map make units ++ y ∷ more) (record {
      joined = (same other).alike (make unit) ∙ (same unit).joined;
      alike = λ w. (same unit).alike w ∙ sym ((same other).alike w);
    })
    ∙ several_put joins make (other ∷ units) front y more same

-- ---- elements that are changed

-- two lists have together no fewer stretches than the one of both, and one more at most
pub parts_cover : {A : Type 0} (joins : A → A → Bool) (xs ys : List A) → count joins (xs ++ ys) ≤ count joins xs +
    count joins ys
parts_cover joins [] ys = omega arith
parts_cover joins (x ∷ []) [] = let one = count_one joins x in omega (arith, one)
parts_cover joins (x ∷ []) (y ∷ ys) =
    let next = count_before joins x y ys in
    let few = one_at_most (joins x y) in
    let one = count_one joins x in
    omega (arith, next, few, one)
parts_cover joins (x ∷ z ∷ xs) ys =
    let rest = parts_cover joins (z ∷ xs) ys in
    let long = count_before joins x z (xs ++ ys) in
    let short = count_before joins x z xs in
    omega (arith, rest, long, short)

pub parts_few : {A : Type 0} (joins : A → A → Bool) (xs ys : List A) → count joins xs + count joins ys ≤ count joins
    (xs ++ ys) + 1
parts_few joins [] ys = let none = count_none joins in omega (arith, none)
parts_few joins (x ∷ []) [] = let none = count_none joins in omega (arith, none)
parts_few joins (x ∷ []) (y ∷ ys) =
    let next = count_before joins x y ys in
    let one = count_one joins x in
    omega (arith, next, one)
parts_few joins (x ∷ z ∷ xs) ys =
    let rest = parts_few joins (z ∷ xs) ys in
    let long = count_before joins x z (xs ++ ys) in
    let short = count_before joins x z xs in
    omega (arith, rest, long, short)

joined_still : (before after : Bool) → (before ≡ true → after ≡ true) → cond after 0 1 ≤ cond before 0 1
joined_still true after keeps = let same = ap {B = ℕ} (λ b. cond b 0 1) (keeps refl) in omega (arith, same)
joined_still false after keeps = one_at_most after

-- a change that keeps joined what is joined adds none
pub count_mapped : {A : Type 0} (joins : A → A → Bool) (f : A → A) (xs : List A) → ((x y : A) → joins x y ≡ true →
    joins (f x) (f y) ≡ true) → count joins (map f xs) ≤ count joins xs
count_mapped joins f [] keeps = omega arith
count_mapped joins f (x ∷ []) keeps = let one = count_one joins x in let other = count_one joins (f x) in
    omega (arith, one, other)
count_mapped joins f (x ∷ y ∷ xs) keeps =
    let rest = count_mapped joins f (y ∷ xs) keeps in
    let long = count_before joins (f x) (f y) (map f xs) in
    let short = count_before joins x y xs in
    let still = joined_still (joins x y) (joins (f x) (f y)) (keeps x y) in
    omega (arith, rest, long, short, still)

-- in the middle of others it adds two at most
pub count_changed : {A : Type 0} (joins : A → A → Bool) (f : A → A) (front middle back : List A) → ((x y : A) →
    joins x y ≡ true → joins (f x) (f y) ≡ true) → count joins (front ++ (map f middle ++ back)) ≤ count joins
    (front ++ (middle ++ back)) + 2
count_changed joins f front middle back keeps =
    let a = parts_cover joins front (map f middle ++ back) in
    let b = parts_cover joins (map f middle) back in
    let c = count_mapped joins f middle keeps in
    let d = parts_few joins middle back in
    let e = parts_few joins front (middle ++ back) in
    omega (arith, a, b, c, d, e)

-- stretches are counted by what joining goes by
pub count_keys : {A K : Type 0} (key : A → K) (joins : K → K → Bool) (xs : List A) → count (λ x y. joins (key x)
    (key y)) xs ≡ count joins (map key xs)
count_keys key joins [] = count_none (λ x y. joins (key x) (key y)) ∙ sym (count_none joins)
count_keys key joins (x ∷ []) = count_one (λ x y. joins (key x) (key y)) x ∙ sym (count_one joins (key x))
count_keys key joins (x ∷ y ∷ xs) =
    count_before (λ x y. joins (key x) (key y)) x y xs
    ∙ ap (λ n. cond (joins (key x) (key y)) 0 1 + n) (count_keys key joins (y ∷ xs))
    ∙ sym (count_before joins (key x) (key y) (map key xs))
