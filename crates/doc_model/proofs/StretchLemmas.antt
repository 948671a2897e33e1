-- Cutting off the first stretch.
use Rattle.std.proofs.Common.{◌≡◌, ◌≤◌, ◌+◌, ◌-◌, ◌∙◌, ap, refl, sym, subst, ℕ, zero, suc, Bool, true, false, List}
use Rattle.std.proofs.Common.{[], ◌∷◌, ◌++◌, length, take, drop, slice_get, arith}
use Rattle.std.specs.Prelude.{if◌then◌else◌}
use Rattle.std.specs.List.{flat_map}
use Rattle.std.proofs.Common.{append_assoc, length-drop}
use Rattle.std.proofs.lemmas.List.{drop-drop, take_all, drop_all, append-nil}
use Rattle.doc_model.specs.Stretches.{stretch_from, stretches, joins_next, joins_at, BeginsStretch}

-- stretches that begin with an element
pub record Leads {A : Type 0} (x : A) (parts : List (List A)) : Type 0 where
  pub front : List A
  pub more : List (List A)
  pub is : parts ≡ (x ∷ front) ∷ more

pub leads : {A : Type 0} (joins : A → A → Bool) (x : A) (parts : List (List A)) → Leads x (stretch_from joins x parts)
leads joins x [] = record { front = []; more = []; is = refl }
leads joins x ([] ∷ more) = record { front = []; more = more; is = refl }
leads joins x ((y ∷ ys) ∷ more) =
    elim (joins x y) as (λ b. Leads x (if b then (x ∷ y ∷ ys) ∷ more else (x ∷ []) ∷ (y ∷ ys) ∷ more)) [
      | true ↦ record { front = y ∷ ys; more = more; is = refl }
      | false ↦ record { front = []; more = (y ∷ ys) ∷ more; is = refl }
    ]

-- an element is one stretch more at most
pub one_more : {A : Type 0} (joins : A → A → Bool) (x : A) (parts : List (List A)) →
    length (stretch_from joins x parts) ≤ 1 + length parts
one_more joins x [] = omega arith
one_more joins x ([] ∷ more) = omega arith
one_more joins x ((y ∷ ys) ∷ more) =
    elim (joins x y) as
    (λ b. length (if b then (x ∷ y ∷ ys) ∷ more else (x ∷ []) ∷ (y ∷ ys) ∷ more) ≤ 1 + length ((y ∷ ys) ∷ more)) [
      | true ↦ omega arith
      | false ↦ omega arith
    ]

-- and none where it joins the first element
pub none_more : {A : Type 0} (joins : A → A → Bool) (x y : A) (parts : List (List A)) → joins x y ≡ true →
    length (stretch_from joins x (stretch_from joins y parts)) ≡ length (stretch_from joins y parts)
none_more joins x y parts joined = let next = leads joins y parts in rw (next.is, joined) refl

-- an element that joins no next one is a stretch
alone : {A : Type 0} (joins : A → A → Bool) (x : A) (xs : List A) → joins_at joins (x ∷ xs) 0 ≡ false →
    stretches joins (x ∷ xs) ≡ (x ∷ []) ∷ stretches joins xs
unfolding stretches
alone joins x [] e = refl
alone joins x (y ∷ ys) e =
    let next = leads joins y (stretches joins ys) in
    let apart : joins x y ≡ false = e in
    rw (next.is, apart) refl

-- an element joins the next one wherever both are
pub joins_at-tail : {A : Type 0} (joins : A → A → Bool) (x : A) (xs : List A) (k : ℕ) →
    joins_at joins (x ∷ xs) (suc k) ≡ joins_at joins xs k
joins_at-tail joins x xs k =
    let e : suc k + 1 ≡ suc (k + 1) = omega arith in
    ap (λ i. joins_next joins (slice_get xs k) (slice_get (x ∷ xs) i)) e

-- the rest of a stretch
tail : {A : Type 0} (joins : A → A → Bool) (x : A) (xs : List A) (n : ℕ) →
    BeginsStretch joins (x ∷ xs) (suc (suc n)) → BeginsStretch joins xs (suc n)
tail joins x xs n b =
    let within = b.within in
    record {
      some = omega arith;
      within = omega arith;
      joined = λ k h. sym (joins_at-tail joins x xs k) ∙ b.joined (suc k) (omega arith);
      ends =
          let here : suc n - 1 ≡ n = omega arith in
          let there : suc (suc n) - 1 ≡ suc n = omega arith in
          ap (λ i. joins_at joins xs i) here ∙ (sym (joins_at-tail joins x xs n)
          ∙ (ap (λ i. joins_at joins (x ∷ xs) i) (sym there) ∙ b.ends));
    }

-- a list that begins with a stretch
pub stretches-first : {A : Type 0} (joins : A → A → Bool) (xs : List A) (len : ℕ) → BeginsStretch joins xs len →
    stretches joins xs ≡ take len xs ∷ stretches joins (drop len xs)
unfolding stretches
stretches-first joins [] len b = absurd (let s = b.some in let w = b.within in omega arith)
stretches-first joins (x ∷ xs) zero b = absurd (let s = b.some in omega arith)
stretches-first joins (x ∷ xs) (suc zero) b = alone joins x xs b.ends
stretches-first joins (x ∷ []) (suc (suc n)) b = absurd (let w = b.within in omega arith)
stretches-first joins (x ∷ (y ∷ ys)) (suc (suc n)) b =
    let rest = stretches-first joins (y ∷ ys) (suc n) (tail joins x (y ∷ ys) n b) in
    let joined : joins x y ≡ true = b.joined 0 (omega arith) in
    rw (rest, joined) refl

-- nothing is cut of an empty list
pub stretches-nil : {A : Type 0} (joins : A → A → Bool) → stretches joins [] ≡ []
unfolding stretches
stretches-nil joins = refl

-- the rest of a list, as a range of it
pub rest_of : {A : Type 0} (xs : List A) (at : ℕ) → take (length xs - at) (drop at xs) ≡ drop at xs
rest_of {A = A} xs at = take_all (length xs - at) (drop at xs) (omega (arith, length-drop at xs))

-- a range, as the front of the rest
pub part_of : {A : Type 0} (xs : List A) (at len : ℕ) → take (at + len - at) (drop at xs) ≡ take len (drop at xs)
part_of xs at len = let e : at + len - at ≡ len = omega arith in ap (λ n. take n (drop at xs)) e

-- a text goes on by the text of the next stretch
pub goes_on : {A : Type 0} (joins : A → A → Bool) (f : List A → List ℕ) (xs : List A) (at len : ℕ)
    (text more whole : List ℕ) →
    BeginsStretch joins (take (length xs - at) (drop at xs)) len →
    more ≡ text ++ f (take (at + len - at) (drop at xs)) →
    text ++ flat_map f (stretches joins (drop at xs)) ≡ whole →
    more ++ flat_map f (stretches joins (drop (at + len) xs)) ≡ whole
goes_on joins f xs at len text more whole b m w =
    let begins = rw (rest_of xs at) at b in
    let first = stretches-first joins (drop at xs) len begins in
    rw (m, part_of xs at len, ← drop-drop len at xs, append_assoc)
    (subst (λ parts. text ++ flat_map f parts ≡ whole) first w)

-- the part of a list that a stretch takes is within it
pub stays_within : {A : Type 0} (joins : A → A → Bool) (xs : List A) (at len : ℕ) → at ≤ length xs →
    BeginsStretch joins (take (length xs - at) (drop at xs)) len → at + len ≤ length xs
stays_within joins xs at len h b =
    let begins = rw (rest_of xs at) at b in
    let within = begins.within in
    omega (arith, length-drop at xs)

-- where the list is used up nothing is left to write
pub done_at : {A : Type 0} (joins : A → A → Bool) (f : List A → List ℕ) (xs : List A) (at : ℕ) (text whole : List ℕ) →
    length xs ≤ at → text ++ flat_map f (stretches joins (drop at xs)) ≡ whole → text ≡ whole
done_at joins f xs at text whole h w =
    let none : drop at xs ≡ [] = drop_all at xs h in
    sym (append-nil text) ∙ (ap (λ parts. text ++ flat_map f parts) (sym (stretches-nil joins))
    ∙ (ap (λ rest. text ++ flat_map f (stretches joins rest)) (sym none) ∙ w))
