-- Lists: fronts and parts, what is at a place, and what holds of each element.
use Rattle.std.proofs.Common.{◌≡◌, ◌≢◌, ◌∙◌, inl, inr, refl, sym, ap, subst, ℕ, zero, suc, ◌+◌, ◌-◌, ◌<◌, ◌≤◌, Bool}
use Rattle.std.proofs.Common.{true, false, cond, List, [], ◌∷◌, ◌++◌, length, map, take, drop, Option, Some, eqb, ◌⊎◌}
use Rattle.std.proofs.Common.{get_or, arith, length-take, length-drop, slice_set, length-set, filter, length-append}
use Rattle.std.specs.Prelude.{slice_get, slice_index, slice_range}
use Rattle.std.specs.List.{All, find, range_with_len}
use Rattle.std.specs.Option.{option_map}
use Rattle.std.proofs.Math.Seq.{take-append_seam, drop-append_seam, take-add}
use Rattle.std.proofs.lemmas.Bool.{cases_lt, ne_eqb, false≢true}
use Rattle.std.proofs.lemmas.List.{take-append-drop, drop-drop, get_or-set_same, get_or-set_other, get_or-take, map-id}
use Rattle.std.proofs.lemmas.List.Elements.{All-head, All-tail, All-from_get_or}
use Rattle.std.proofs.lemmas.List.Folds.{list_any_none}
use Rattle.std.proofs.lemmas.Grind.{get_or_default_zero}
use Rattle.std.proofs.lemmas.Map.Keys.{IsDistinct-from_apart}
use Rattle.std.proofs.lemmas.Map.Steps.{length-le_from_distinct_below}
use Rattle.std.proofs.lemmas.Option.{same_Some, slice_get-map, slice_get-get_or, slice_get_past, slice_get_within}
use Rattle.std.proofs.lemmas.List.{get_or-drop, take_all, take_more, drop_more, length-take-le}
use Rattle.std.proofs.lemmas.List.FromFn.{map-range_with_len_more}
use Rattle.std.proofs.lemmas.Option.{get_or_from_slice_get}

-- a map of a map
pub map-map : {A B C : Type 0} (f : B → C) (g : A → B) (xs : List A) → map f (map g xs) ≡ map (λ x. f (g x)) xs
map-map f g [] = refl
map-map f g (x ∷ xs) = ap (λ ys. f (g x) ∷ ys) (map-map f g xs)

-- two lists of one length in front of others
pub same_front : {A : Type 0} (a b x y : List A) → length a ≡ length b → a ++ x ≡ b ++ y → (a ≡ b) × (x ≡ y)
same_front [] [] x y same e = (refl, e)
same_front [] (q ∷ b) x y same e = absurd (omega arith)
same_front (p ∷ a) [] x y same e = absurd (omega arith)
same_front (p ∷ a) (q ∷ b) x y same e =
    let head : p ≡ q = cc in
    let tail : a ++ x ≡ b ++ y = cc in
    let rest = same_front a b x y (omega arith) tail in
    (cc (head, rest.0), rest.1)

-- a list in three parts
pub three_parts : (xs : List ℕ) (from to : ℕ) → from ≤ to → xs ≡ take from xs ++ (slice_range xs from to ++ drop to xs)
three_parts xs from to h =
    let end : from + (to - from) ≡ to = omega arith in
    let last : drop (to - from) (drop from xs) ≡ drop to xs = drop-drop (to - from) from xs ∙ ap (λ n. drop n xs) end in
    let middle : slice_range xs from to ++ drop to xs ≡ drop from xs = rw (← last) (take-append-drop (to - from)
    (drop from xs)) in
    rw middle (sym (take-append-drop from xs))

-- the length of a part
pub length-range : (xs : List ℕ) (from to : ℕ) → to ≤ length xs → length (slice_range xs from to) ≡ to - from
length-range xs from to h = omega (arith, length-take (to - from) (drop from xs), length-drop from xs)

-- the middle one of three parts
pub range_mid : {A : Type 0} (whole xs ys zs : List A) (from to : ℕ) → whole ≡ xs ++ (ys ++ zs) → from ≡ length xs →
    to ≡ length xs + length ys → slice_range whole from to ≡ ys
range_mid whole xs ys zs from to e at end =
    let width : to - from ≡ length ys = omega arith in
    rw (e, width, at, drop-append_seam xs (ys ++ zs)) (take-append_seam ys zs)

-- ---- what is at a place

-- something is at each place of a list
pub there_is : {A : Type 0} (xs : List A) (k : ℕ) → k < length xs → (x : A) × (slice_get xs k ≡ Some x)
there_is [] k h = absurd (omega arith)
there_is (x ∷ xs) zero h = (x, refl)
there_is (x ∷ xs) (suc k) h = there_is xs k (omega arith)

-- an element more
pub slice_get_push : {X : Type 0} (xs : List X) (x : X) → slice_get (xs ++ x ∷ []) (length xs) ≡ Some x
slice_get_push [] x = refl
slice_get_push (y ∷ ys) x = slice_get_push ys x

-- the elements before it
pub slice_get_before : {X : Type 0} (xs ys : List X) (k : ℕ) → k < length xs → slice_get (xs ++ ys) k ≡ slice_get xs k
slice_get_before [] ys k h = absurd (omega arith)
slice_get_before (x ∷ xs) ys zero h = refl
slice_get_before (x ∷ xs) ys (suc k) h = slice_get_before xs ys k (omega arith)

-- what holds of each holds of that at a place
pub All_at : {A : Type 0} (P : A → Type 0) (xs : List A) (k : ℕ) (x : A) → All P xs → slice_get xs k ≡ Some x → P x
All_at P [] k x all e = absurd (cc (e))
All_at P (y ∷ ys) zero x all e = subst P (same_Some y x e) (All-head P y ys all)
All_at P (y ∷ ys) (suc k) x all e = All_at P ys k x (All-tail P y ys all) e

-- and what holds of that at each place holds of each
pub All-from_slice_get : {A : Type 0} (P : A → Type 0) (xs : List A) → ((k : ℕ) (x : A) → slice_get xs k ≡ Some x →
    P x) → All P xs
All-from_slice_get P xs each = λ k d low. each k (get_or xs k d) (slice_get-get_or xs k d low)

-- what is in a map of a list comes from what is in the list
pub from_map : {A B : Type 0} (f : A → B) (xs : List A) (k : ℕ) (y : B) → slice_get (map f xs) k ≡ Some y →
    (x : A) × ((slice_get xs k ≡ Some x) × (f x ≡ y))
from_map f [] k y e = absurd (cc (e))
from_map f (x ∷ xs) zero y e = (x, (refl, same_Some (f x) y e))
from_map f (x ∷ xs) (suc k) y e = from_map f xs k y e

-- what is at a place of a map
pub get-map : {A B : Type 0} (f : A → B) (xs : List A) (k : ℕ) (x : A) → slice_get xs k ≡ Some x →
    slice_get (map f xs) k ≡ Some (f x)
get-map f xs k x e = slice_get-map f xs k ∙ ap (option_map f) e

-- what was found has what all have
first_or_later : {A : Type 0} (P : A → Type 0) (b : Bool) (y x : A) (later : Option A) → P y → (later ≡ Some x →
    P x) → cond b (Some y) later ≡ Some x → P x
first_or_later P true y x later here rest e = subst P (same_Some y x e) here
first_or_later P false y x later here rest e = rest e

pub found_has : {A : Type 0} (P : A → Type 0) (p : A → Bool) (xs : List A) (x : A) → All P xs → find p xs ≡ Some x → P x
found_has P p [] x all e = absurd (cc (e))
found_has P p (y ∷ ys) x all e = first_or_later P (p y) y x (find p ys) (All-head P y ys all) (found_has P p ys x
    (All-tail P y ys all)) e

-- ---- distinct numbers

-- distinct numbers below n are at most n
pub length_below : (xs : List ℕ) (n : ℕ) → ((i : ℕ) → i < length xs → slice_index xs i < n) → ((i j : ℕ) → i < j →
    j < length xs → slice_index xs i ≢ slice_index xs j) → length xs ≤ n
length_below xs n within distinct =
    length-le_from_distinct_below xs n
    (IsDistinct-from_apart eqb xs (λ i j d h below.
    let a = get_or_default_zero xs i d (omega arith) in
    let b = get_or_default_zero xs j d below in
    ne_eqb (get_or xs i d) (get_or xs j d) (λ e. distinct i j h below (sym a ∙ (e ∙ b)))))
    (λ q any. elim (cases_lt q n) [
      | inl low ↦ low
      | inr high ↦ absurd (false≢true (sym (list_any_none (eqb q) xs (All-from_get_or (λ x. eqb q x ≡ false) xs 0
          (λ i h. let low = within i h in ne_eqb q (get_or xs i 0) (λ e. absurd (omega arith))))) ∙ any))
    ])

-- ---- the front of a list

-- what is at a place of the front is there in the list
pub slice_get-take : {X : Type 0} (k : ℕ) (xs : List X) (i : ℕ) (x : X) → slice_get (take k xs) i ≡ Some x →
    slice_get xs i ≡ Some x
slice_get-take zero xs i x here = absurd (grind (arith, here))
slice_get-take (suc k) [] i x here = here
slice_get-take (suc k) (y ∷ ys) zero x here = here
slice_get-take (suc k) (y ∷ ys) (suc i) x here = slice_get-take k ys i x here

pub nil_from_length : {A : Type 0} (xs : List A) → length xs ≡ 0 → xs ≡ []
nil_from_length [] none = refl
nil_from_length (x ∷ xs) none = absurd (omega (arith, none))

pub set_here : {X : Type 0} (xs : List X) (i : ℕ) (x : X) → i < length xs → slice_get (slice_set xs i x) i ≡ Some x
set_here xs i x h =
    let len = length-set xs i x in
    slice_get-get_or (slice_set xs i x) i x (omega arith) ∙ ap (λ y. Some y) (get_or-set_same xs i x x h)

pub set_other : {X : Type 0} (xs : List X) (i s : ℕ) (x : X) → s ≢ i → slice_get (slice_set xs i x) s ≡ slice_get xs s
set_other xs i s x other =
    let len = length-set xs i x in
    elim (cases_lt s (length xs)) [
      | inl h ↦ slice_get-get_or (slice_set xs i x) s x (omega arith) ∙ (ap (λ y. Some y) (get_or-set_other xs i s x x
          other) ∙ sym (slice_get-get_or xs s x h))
      | inr past ↦ slice_get_past (slice_set xs i x) s (omega arith) ∙ sym (slice_get_past xs s past)
    ]

-- a part of a list
pub range_index : (xs : List ℕ) (from to i : ℕ) → i < to - from →
    slice_index (slice_range xs from to) i ≡ slice_index xs
    (from + i)
range_index xs from to i h = get_or-take (to - from) (drop from xs) i 0 h ∙ get_or-drop from xs i 0

pub get_or-behind : {A : Type 0} (xs : List A) (n : ℕ) (d : A) → length xs ≤ n → get_or xs n d ≡ d
get_or-behind [] n d low = refl
get_or-behind (x ∷ xs) zero d low = absurd (omega (arith, low))
get_or-behind (x ∷ xs) (suc n) d low = get_or-behind xs n d (omega (arith, low))

-- units of the rest are units of the list
pub part_within : (units : List ℕ) (count more : ℕ) → count ≤ length units →
    more ≤ length (take (length units - count) (drop count units)) → count + more ≤ length units
part_within units count more within few =
    let whole = take_all (length units - count) (drop count units) (omega (arith, length-drop count units)) in
    omega (arith, within, few, ap length whole, length-drop count units)

-- a slice from an offset on
pub rest_is : (xs : List ℕ) (at : ℕ) → take (length xs - at) (drop at xs) ≡ drop at xs
rest_is xs at = take_all (length xs - at) (drop at xs) (omega (arith, length-drop at xs))

pub range_more : (n : ℕ) → range_with_len 0 (n + 1) ≡ range_with_len 0 n ++ n ∷ []
range_more n =
    sym (map-id (range_with_len 0 (n + 1)))
    ∙ (map-range_with_len_more (λ k. k) 0 n n (omega arith)
    ∙ ap (λ l. l ++ n ∷ []) (map-id (range_with_len 0 n)))

pub one_not_kept : (p : ℕ → Bool) (n : ℕ) → p n ≡ false → filter p (n ∷ []) ≡ []
one_not_kept p n e = rw e (refl)

-- a part of a list in two
pub range_split : {A : Type 0} (xs : List A) (from i to : ℕ) → from ≤ i → i ≤ to →
    slice_range xs from to ≡ slice_range xs from i ++ slice_range xs i to
range_split xs from i to low high =
    let e : to - from ≡ (i - from) + (to - i) = omega arith in
    let at : from + (i - from) ≡ i = omega arith in
    ap (λ (n : ℕ). take n (drop from xs)) e
    ∙ (take-add (i - from) (to - i) (drop from xs)
    ∙ ap (λ (ys : List _). slice_range xs from i ++ take (to - i) ys) (drop-drop (i - from) from xs ∙ ap
    (λ (n : ℕ). drop n xs) at))

pub take_step : {X : Type 0} (xs : List X) (i : ℕ) (x : X) → slice_get xs i ≡ Some x → take (i + 1) xs ≡ take i xs ++ x
    ∷ []
take_step xs i x there =
    take_more xs i x (slice_get_within xs i x there)
    ∙ ap (λ y. take i xs ++ y ∷ []) (get_or_from_slice_get xs i x x there)

pub one_range : (units : List ℕ) (at : ℕ) → at < length units → slice_range units at (at + 1) ≡ slice_index units at ∷
    []
one_range units at within =
    let one : at + 1 - at ≡ 1 = omega arith in
    ap (λ (n : ℕ). take n (drop at units)) one ∙ ap (take 1) (drop_more units at 0 within)

-- the number of places in a part of a list
pub length_part : (xs : List ℕ) (from count : ℕ) → from + count ≤ length xs →
    length (slice_range xs from (from + count)) ≡ count
length_part xs from count within =
    let width : from + count - from ≡ count = omega arith in
    ap (λ (n : ℕ). length (take n (drop from xs))) width
    ∙ length-take-le count (drop from xs) (omega (arith, length-drop from xs))

pub same_entry : {A : Type 0} (xs : List A) (i : ℕ) (x y : A) → slice_get xs i ≡ Some x → slice_get xs i ≡ Some y → x ≡
    y
same_entry xs i x y a b = sym (get_or_from_slice_get xs i x x a) ∙ get_or_from_slice_get xs i y x b

-- a value of a list with one more is one of the list, or the last
pub last_get : {X : Type 0} (xs : List X) (x y : X) (k : ℕ) → slice_get (xs ++ x ∷ []) k ≡ Some y →
    (slice_get xs k ≡ Some y) ⊎ ((k ≡ length xs) × (x ≡ y))
last_get xs x y k e =
    let within = slice_get_within (xs ++ x ∷ []) k y e in
    let below : k < length xs + 1 = simp length-append at within in
    elim (cases_lt k (length xs)) [
      | inl lower ↦ inl (sym (slice_get_before xs (x ∷ []) k lower) ∙ e)
      | inr upper ↦
          let here : k ≡ length xs = omega arith in
          let same : Some x ≡ Some y = sym (slice_get_push xs x) ∙ (ap (slice_get (xs ++ x ∷ [])) (sym here) ∙ e) in
          inr (here, cc)
    ]
