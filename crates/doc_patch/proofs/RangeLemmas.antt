-- Ranges of a list, spliced and changed.
use Rattle.std.proofs.Common.{◌≡◌, ◌∙◌, refl, sym, ap, ℕ, zero, suc, ◌+◌, ◌-◌, ◌<◌, ◌≤◌, List, [], ◌∷◌, ◌++◌, length}
use Rattle.std.proofs.Common.{map, take, drop, Option, Some, None, arith, length-append, length-take-le, append_assoc}
use Rattle.std.specs.Prelude.{slice_get, slice_range}
use Rattle.std.specs.List.{splice}
use Rattle.std.proofs.lemmas.List.{length-map}
use Rattle.std.proofs.lemmas.List.Edits.{length-between}
use Rattle.std.proofs.Math.Seq.{drop-append_seam, take-append_seam}
use Rattle.doc_bits.specs.Together.{AreTogether}
use Rattle.doc_bits.proofs.Public.{map-map, range_mid}
use Rattle.run_lists.specs.Changed.{IsChanged}
use Rattle.doc_model.proofs.Public.{length-splice}
use Rattle.doc_patch.specs.Changes.{map_range, changed_at, put_changed}

-- values each of which became what a function makes of it
pub together_map : {A : Type 0} (R : A → A → Type 0) (f : A → A) (xs ys : List A) → AreTogether R xs ys →
    ((x y : A) → R x y → y ≡ f x) → ys ≡ map f xs
together_map R f [] [] together is = refl
together_map R f [] (y ∷ ys) together is = absurd (let e = together.len in omega (arith, e))
together_map R f (x ∷ xs) [] together is = absurd (let e = together.len in omega (arith, e))
together_map {A = A} R f (x ∷ xs) (y ∷ ys) together is =
    let first : y ≡ f x = is x y (together.each zero x y refl refl) in
    let rest : ys ≡ map f xs =
    together_map R f xs ys (record {
      len = let e = together.len in omega (arith, e);
      each = λ k before after here there. together.each (suc k) before after here there;
    }) is in
    ap (λ (z : A). z ∷ ys) first ∙ ap (λ (t : List A). f x ∷ t) rest

-- a list of which a range was changed by a function
pub changed_is : {A : Type 0} (R : A → A → Type 0) (f : A → A) (from to : ℕ) (old new : List A) →
    IsChanged R from to old new → ((x y : A) → R x y → y ≡ f x) → new ≡ map_range f old from to
changed_is {A = A} R f from to old new changes is =
    changes.spliced
    ∙ ap (λ (t : List A). splice old from to t)
    (together_map R f (slice_range old from to) changes.fresh changes.each is)

-- it is as long as it was
pub length-changed : {A : Type 0} (R : A → A → Type 0) (from to : ℕ) (old new : List A) → IsChanged R from to old new →
    from ≤ to → to ≤ length old → length new ≡ length old
length-changed R from to old new changes ordered within =
    let fresh : length changes.fresh ≡ to - from = sym changes.each.len ∙ length-between old from to within in
    omega (arith, ap length changes.spliced, length-splice old changes.fresh from to ordered within, fresh)

-- what was put in place of a range is there
pub range_spliced : {A : Type 0} (xs ys : List A) (from to : ℕ) → from ≤ to → to ≤ length xs → length ys ≡ to - from →
    slice_range (splice xs from to ys) from to ≡ ys
range_spliced xs ys from to ordered within long =
    let front : length (take from xs) ≡ from = length-take-le from xs (omega arith) in
    range_mid (splice xs from to ys) (take from xs) ys (drop to xs) from to refl (sym front)
    (omega (arith, front, long))

-- the second splice of a range stays
pub splice_twice : {A : Type 0} (xs ys zs : List A) (from to : ℕ) → from ≤ to → to ≤ length xs →
    length ys ≡ to - from → splice (splice xs from to ys) from to zs ≡ splice xs from to zs
splice_twice {A = A} xs ys zs from to ordered within long =
    let front = take from xs in
    let back = drop to xs in
    let front_long : from ≡ length front = sym (length-take-le from xs (omega arith)) in
    let both_long : to ≡ length (front ++ ys) = omega (arith, length-append front ys, front_long, long) in
    let first : take from (front ++ (ys ++ back)) ≡ front =
    ap (λ (n : ℕ). take n (front ++ (ys ++ back))) front_long ∙ take-append_seam front (ys ++ back) in
    let last : drop to (front ++ (ys ++ back)) ≡ back =
    ap (drop to) (sym (append_assoc front ys back))
    ∙ ap (λ (n : ℕ). drop n ((front ++ ys) ++ back)) both_long
    ∙ drop-append_seam (front ++ ys) back in
    ap (λ (t : List A). t ++ (zs ++ drop to (front ++ (ys ++ back)))) first
    ∙ ap (λ (t : List A). front ++ (zs ++ t)) last

-- a range changed twice
pub map_range_twice : {A : Type 0} (g f : A → A) (xs : List A) (from to : ℕ) → from ≤ to → to ≤ length xs →
    map_range g (map_range f xs from to) from to ≡ map_range (λ x. g (f x)) xs from to
map_range_twice {A = A} g f xs from to ordered within =
    let range = slice_range xs from to in
    let ys = map f range in
    let long : length ys ≡ to - from = length-map range f ∙ length-between xs from to within in
    splice_twice xs ys (map g (slice_range (splice xs from to ys) from to)) from to ordered within long
    ∙ ap (λ (t : List A). splice xs from to (map g t)) (range_spliced xs ys from to ordered within long)
    ∙ ap (λ (t : List A). splice xs from to t) (map-map g f range)

-- ---- a range of one entry

pub put_more : {A : Type 0} (f : A → A) (x : A) (xs : List A) (at : ℕ) (o : Option A) →
    put_changed (x ∷ xs) (suc at) f o ≡ x ∷ put_changed xs at f o
put_more f x xs at None = refl
put_more f x xs at (Some y) = refl

put_one : {A : Type 0} (f : A → A) (xs : List A) (at : ℕ) → at < length xs →
    take at xs ++ (map f (take 1 (drop at xs)) ++ drop (suc at) xs) ≡ changed_at xs at f
put_one f [] at within = absurd (omega (arith, within))
put_one f (x ∷ xs) zero within = refl
put_one {A = A} f (x ∷ xs) (suc at) within =
    ap (λ (t : List A). x ∷ t) (put_one f xs at (omega (arith, within)))
    ∙ sym (put_more f x xs at (slice_get xs at))

-- a range of one entry changed
pub map_one : {A : Type 0} (f : A → A) (xs : List A) (at : ℕ) → at < length xs →
    map_range f xs at (at + 1) ≡ changed_at xs at f
map_one {A = A} f xs at within =
    let wide : at + 1 - at ≡ 1 = omega arith in
    let next : at + 1 ≡ suc at = omega arith in
    ap (λ (n : ℕ). take at xs ++ (map f (take n (drop at xs)) ++ drop (at + 1) xs)) wide
    ∙ ap (λ (n : ℕ). take at xs ++ (map f (take 1 (drop at xs)) ++ drop n xs)) next
    ∙ put_one f xs at within
