-- Ranges of lists that are put together, and lists with a range exchanged.
use Rattle.std.proofs.Common.{◌≡◌, ℕ, refl, sym, ap, ◌∙◌, ◌+◌, ◌-◌, ◌<◌, ◌≤◌, List, [], ◌∷◌, ◌++◌, length, map, min}
use Rattle.std.proofs.Common.{take, drop, set, get_or, arith, append_assoc, length-append, length-drop, inl, inr}
use Rattle.std.proofs.Common.{length-take-le}
use Rattle.std.specs.Prelude.{slice_range}
use Rattle.std.proofs.Math.Seq.{take-add}
use Rattle.std.proofs.lemmas.Bool.{cases_lt}
use Rattle.std.proofs.lemmas.List.{take_at, drop_at, take-append-le, drop-append-le, take_all, drop_all, drop-drop}
use Rattle.std.proofs.lemmas.List.{append-nil, map-append, take-append-drop, drop_min, set_at, drop_more}
use Rattle.std.proofs.lemmas.List.{map-set, set-get_or, get_or_at, length-map}
use Rattle.std.proofs.lemmas.Option.{slice_get-get_or}
use Rattle.chunked_list.specs.Blocks.{map_range}
use Rattle.chunked_list.proofs.UnitLemmas.{range_push}

-- ---- two lists in one

-- what is behind the first list
pub drop_past : {A : Type 0} (n : ℕ) (xs ys : List A) → length xs ≤ n → drop n (xs ++ ys) ≡ drop (n - length xs) ys
drop_past {A = A} n xs ys past =
    let all : n ≡ length xs + (n - length xs) = omega arith in
    ap (λ (m : ℕ). drop m (xs ++ ys)) all
    ∙ sym (drop-drop (n - length xs) (length xs) (xs ++ ys))
    ∙ ap (λ (t : List A). drop (n - length xs) t) (drop_at xs ys (length xs) refl)

pub drop-append : {A : Type 0} (n : ℕ) (xs ys : List A) → drop n (xs ++ ys) ≡ drop n xs ++ drop (n - length xs) ys
drop-append {A = A} n xs ys = elim (cases_lt n (length xs)) [
  | inl low ↦
      let le : n ≤ length xs = omega arith in
      let none : n - length xs ≡ 0 = omega arith in
      drop-append-le n xs ys le ∙ ap (λ (m : ℕ). drop n xs ++ drop m ys) (sym none)
  | inr past ↦ drop_past n xs ys past ∙ ap (λ (t : List A). t ++ drop (n - length xs) ys) (sym (drop_all n xs past))
]

pub take-append : {A : Type 0} (n : ℕ) (xs ys : List A) → take n (xs ++ ys) ≡ take n xs ++ take (n - length xs) ys
take-append {A = A} n xs ys = elim (cases_lt n (length xs)) [
  | inl low ↦
      let le : n ≤ length xs = omega arith in
      let none : n - length xs ≡ 0 = omega arith in
      take-append-le n xs ys le
      ∙ sym (append-nil (take n xs))
      ∙ ap (λ (m : ℕ). take n xs ++ take m ys) (sym none)
  | inr past ↦
      let all : n ≡ length xs + (n - length xs) = omega arith in
      ap (λ (m : ℕ). take m (xs ++ ys)) all
      ∙ take-add (length xs) (n - length xs) (xs ++ ys)
      ∙ ap (λ (t : List A). t ++ take (n - length xs) (drop (length xs) (xs ++ ys))) (take_at xs ys (length xs) refl)
      ∙ ap (λ (t : List A). xs ++ take (n - length xs) t) (drop_at xs ys (length xs) refl)
      ∙ ap (λ (t : List A). t ++ take (n - length xs) ys) (sym (take_all n xs past))
]

pub range-append : {A : Type 0} (xs ys : List A) (a b : ℕ) → a ≤ b →
    slice_range (xs ++ ys) a b ≡ slice_range xs a b ++ slice_range ys (a - length xs) (b - length xs)
range-append {A = A} xs ys a b order =
    let rest : b - a - length (drop a xs) ≡ (b - length xs) - (a - length xs) = omega (arith, length-drop a xs) in
    ap (λ (t : List A). take (b - a) t) (drop-append a xs ys)
    ∙ take-append (b - a) (drop a xs) (drop (a - length xs) ys)
    ∙ ap (λ (n : ℕ). take (b - a) (drop a xs) ++ take n (drop (a - length xs) ys)) rest

-- ---- a range exchanged

-- the range is in the second list, in both, or in the first
behind_both : {A : Type 0} (t p m d : List A) → (t ++ p) ++ (m ++ d) ≡ (t ++ []) ++ (p ++ (m ++ d))
behind_both {A = A} t p m d =
    append_assoc t p (m ++ d) ∙ ap (λ (l : List A). l ++ (p ++ (m ++ d))) (sym (append-nil t))

over_both : {A : Type 0} (t q m d : List A) → (t ++ []) ++ ((q ++ m) ++ d) ≡ (t ++ (q ++ [])) ++ (m ++ d)
over_both {A = A} t q m d =
    ap (λ (l : List A). l ++ ((q ++ m) ++ d)) (append-nil t)
    ∙ ap (λ (l : List A). t ++ l) (append_assoc q m d)
    ∙ sym (append_assoc t q (m ++ d))
    ∙ ap (λ (l : List A). (t ++ l) ++ (m ++ d)) (sym (append-nil q))

before_both : {A : Type 0} (t q e d : List A) → (t ++ []) ++ ((q ++ []) ++ (e ++ d)) ≡ (t ++ (q ++ e)) ++ d
before_both {A = A} t q e d =
    ap (λ (l : List A). l ++ ((q ++ []) ++ (e ++ d))) (append-nil t)
    ∙ ap (λ (l : List A). t ++ (l ++ (e ++ d))) (append-nil q)
    ∙ ap (λ (l : List A). t ++ l) (sym (append_assoc q e d))
    ∙ sym (append_assoc t (q ++ e) d)

pub map_range-append : {A : Type 0} (f : A → A) (xs ys : List A) (a b : ℕ) → a ≤ b →
    map_range f (xs ++ ys) a b ≡ map_range f xs a b ++ map_range f ys (a - length xs) (b - length xs)
map_range-append {A = A} f xs ys a b order =
    let l = length xs in
    let t = take a xs in
    let p = take (a - l) ys in
    let q = slice_range xs a b in
    let m = slice_range ys (a - l) (b - l) in
    let e = drop b xs in
    let d = drop (b - l) ys in
    let parts : map_range f (xs ++ ys) a b ≡ (t ++ p) ++ ((map f q ++ map f m) ++ (e ++ d)) =
    ap (λ (s : List A). s ++ (map f (slice_range (xs ++ ys) a b) ++ drop b (xs ++ ys))) (take-append a xs ys)
    ∙ ap (λ (s : List A). (t ++ p) ++ (map f s ++ drop b (xs ++ ys))) (range-append xs ys a b order)
    ∙ ap (λ (s : List A). (t ++ p) ++ (s ++ drop b (xs ++ ys))) (map-append f q m)
    ∙ ap (λ (s : List A). (t ++ p) ++ ((map f q ++ map f m) ++ s)) (drop-append b xs ys) in
    elim (cases_lt a l) [
      | inr behind ↦
          let past : l ≤ b = omega arith in
          let short : length (drop a xs) ≤ b - a = omega (arith, length-drop a xs) in
          let no_q : q ≡ [] = take_all (b - a) (drop a xs) short ∙ drop_all a xs behind in
          let no_e : e ≡ [] = drop_all b xs past in
          parts
          ∙ ap (λ (s : List A). (t ++ p) ++ ((map f s ++ map f m) ++ (e ++ d))) no_q
          ∙ ap (λ (s : List A). (t ++ p) ++ (map f m ++ (s ++ d))) no_e
          ∙ behind_both t p (map f m) d
          ∙ ap (λ (s : List A). (t ++ s) ++ (p ++ (map f m ++ d))) (sym no_e)
          ∙ ap (λ (s : List A). (t ++ (map f s ++ e)) ++ (p ++ (map f m ++ d))) (sym no_q)
      | inl low ↦
          let none : a - l ≡ 0 = omega arith in
          let no_p : p ≡ [] = ap (λ (n : ℕ). take n ys) none in
          elim (cases_lt b l) [
            | inr past ↦
                let no_e : e ≡ [] = drop_all b xs past in
                parts
                ∙ ap (λ (s : List A). (t ++ s) ++ ((map f q ++ map f m) ++ (e ++ d))) no_p
                ∙ ap (λ (s : List A). (t ++ []) ++ ((map f q ++ map f m) ++ (s ++ d))) no_e
                ∙ over_both t (map f q) (map f m) d
                ∙ ap (λ (s : List A). (t ++ (map f q ++ s)) ++ (map f m ++ d)) (sym no_e)
                ∙ ap (λ (s : List A). (t ++ (map f q ++ e)) ++ (s ++ (map f m ++ d))) (sym no_p)
            | inl before ↦
                let nought : (b - l) - (a - l) ≡ 0 = omega arith in
                let no_m : m ≡ [] = ap (λ (n : ℕ). take n (drop (a - l) ys)) nought in
                parts
                ∙ ap (λ (s : List A). (t ++ s) ++ ((map f q ++ map f m) ++ (e ++ d))) no_p
                ∙ ap (λ (s : List A). (t ++ []) ++ ((map f q ++ map f s) ++ (e ++ d))) no_m
                ∙ before_both t (map f q) e d
                ∙ ap (λ (s : List A). (t ++ (map f q ++ e)) ++ (map f s ++ d)) (sym no_m)
                ∙ ap (λ (s : List A). (t ++ (map f q ++ e)) ++ (s ++ (map f m ++ d))) (sym no_p)
          ]
    ]

-- a list with a range exchanged is as long
pub length-map_range : {A : Type 0} (f : A → A) (xs : List A) (a b : ℕ) → a ≤ b → length (map_range f xs a b)
    ≡ length xs
length-map_range {A = A} f xs a b order =
    let whole = length-append (take a xs) (drop a xs) in
    let range = length-append (slice_range xs a b) (drop (b - a) (drop a xs)) in
    let there : b ≡ a + (b - a) = omega arith in
    omega (
      arith,
      length-append (take a xs) (map f (slice_range xs a b) ++ drop b xs),
      length-append (map f (slice_range xs a b)) (drop b xs),
      length-map (slice_range xs a b) f,
      whole,
      ap length (take-append-drop a xs),
      range,
      ap length (take-append-drop (b - a) (drop a xs)),
      ap length (drop-drop (b - a) a xs),
      ap (λ (n : ℕ). length (drop n xs)) there,
    )

-- bounds beyond the list
pub range_clamped : {A : Type 0} (xs : List A) (a b : ℕ) → a ≤ b →
    slice_range xs (min a (length xs)) (min b (length xs)) ≡ slice_range xs a b
range_clamped {A = A} xs a b order =
    let long = length-drop a xs in
    ap (λ (t : List A). take (min b (length xs) - min a (length xs)) t) (drop_min a xs)
    ∙ elim (cases_lt (length xs) b) [
      | inl beyond ↦
          let one : length (drop a xs) ≤ min b (length xs) - min a (length xs) = omega (arith, long) in
          let two : length (drop a xs) ≤ b - a = omega (arith, long) in
          take_all (min b (length xs) - min a (length xs)) (drop a xs) one ∙ sym (take_all (b - a) (drop a xs) two)
      | inr inside ↦
          let same : min b (length xs) - min a (length xs) ≡ b - a = omega arith in
          ap (λ (n : ℕ). take n (drop a xs)) same
    ]

-- a list of nothing
pub range_nil : {A : Type 0} (xs : List A) (a b : ℕ) → xs ≡ [] → slice_range xs a b ≡ []
range_nil {A = A} xs a b none =
    let past : length {A = A} [] ≤ a = omega arith in
    ap (λ (t : List A). take (b - a) (drop a t)) none
    ∙ ap (λ (t : List A). take (b - a) t) (drop_all a [] past)
    ∙ take_all (b - a) [] (omega arith)

pub map_range_nil : {A : Type 0} (f : A → A) (xs : List A) (a b : ℕ) → xs ≡ [] → map_range f xs a b ≡ []
map_range_nil {A = A} f xs a b none =
    let first : length {A = A} [] ≤ a = omega arith in
    let last : length {A = A} [] ≤ b = omega arith in
    ap (λ (t : List A). map_range f t a b) none
    ∙ ap (λ (t : List A). t ++ (map f (slice_range [] a b) ++ drop b [])) (take_all a [] first)
    ∙ ap (λ (t : List A). map f t ++ drop b []) (range_nil [] a b refl)
    ∙ drop_all b [] last

-- an element more is exchanged
pub map_range_more : {A : Type 0} (f : A → A) (xs now : List A) (a i : ℕ) (x : A) → a ≤ i → i < length xs →
    now ≡ map_range f xs a i → x ≡ get_or now i x → set now i (f x) ≡ map_range f xs a (i + 1)
map_range_more {A = A} f xs now a i x from within is read =
    let done = take a xs ++ map f (slice_range xs a i) in
    let y = get_or xs i x in
    let back = drop (i + 1) xs in
    let low : a ≤ length xs = omega arith in
    let inside : i - a ≤ length (drop a xs) = omega (arith, length-drop a xs) in
    let long : length done ≡ i = omega (
      arith,
      length-append (take a xs) (map f (slice_range xs a i)),
      length-take-le a xs low,
      length-map (slice_range xs a i) f,
      length-take-le (i - a) (drop a xs) inside,
    ) in
    let shape : now ≡ done ++ (y ∷ back) =
    is
    ∙ sym (append_assoc (take a xs) (map f (slice_range xs a i)) (drop i xs))
    ∙ ap (λ (t : List A). done ++ t) (drop_more xs i x within) in
    let same : x ≡ y = read ∙ ap (λ (t : List A). get_or t i x) shape ∙ get_or_at done y back x i long in
    let more : slice_range xs a i ++ y ∷ [] ≡ slice_range xs a (i + 1) =
    range_push xs a i y from (slice_get-get_or xs i x within) in
    ap (λ (t : List A). set t i (f x)) shape
    ∙ set_at done y back (f x) i long
    ∙ ap (λ (z : A). done ++ (f z ∷ back)) same
    ∙ append_assoc (take a xs) (map f (slice_range xs a i)) (f y ∷ back)
    ∙ ap (λ (t : List A). take a xs ++ t) (sym (append_assoc (map f (slice_range xs a i)) (f y ∷ []) back))
    ∙ ap (λ (t : List A). take a xs ++ (t ++ back)) (sym (map-append f (slice_range xs a i) (y ∷ [])))
    ∙ ap (λ (t : List A). take a xs ++ (map f t ++ back)) more

-- an element in the place of another with the same number
pub map_kept : {A B : Type 0} (f : A → B) (xs : List A) (i : ℕ) (x y : A) → x ≡ get_or xs i x → f y ≡ f x →
    map f (set xs i y) ≡ map f xs
map_kept {A = A} {B = B} f xs i x y read same =
    map-set f xs i y
    ∙ ap (λ (z : B). set (map f xs) i z) same
    ∙ sym (map-set f xs i x)
    ∙ ap (λ (z : A). map f (set xs i z)) read
    ∙ ap (map f) (set-get_or xs i x)
