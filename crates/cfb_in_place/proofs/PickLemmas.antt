-- Tests on numbers, places in lists, and numbers that are spelled.
use Rattle.std.proofs.Common.{◌≡◌, ◌≢◌, inl, inr, ℕ, zero, suc, ◌+◌, ◌^◌, ◌<◌, ◌≤◌, ltb, List, [], ◌∷◌, length}
use Rattle.std.proofs.Common.{slice_index, refl, sym, ap, ◌∙◌, arith, append-nil, nat_lt, if◌then◌else◌}
use Rattle.std.proofs.lemmas.Bool.{lt-ltb, le-ltb, cond-true, cond-false, cases_order, cases_eq, cases_lt}
use Rattle.doc_bits.specs.Number.{number_at, number_bytes, u32_at}
use Rattle.doc_bits.proofs.Public.{number_at-same, number_at-number_bytes}
use Rattle.cfb_sectors.specs.SectorChain.{HasSector}

-- the first of two where a number is less than another, else the second
pub pick : ℕ → ℕ → ℕ → ℕ → ℕ
pick a b x y = if nat_lt a b then x else y

pub pick_low : (a b x y : ℕ) → a < b → pick a b x y ≡ x
unfolding pick
pick_low a b x y h = cond-true (ltb a b) x y (lt-ltb a b h)

pub pick_high : (a b x y : ℕ) → b ≤ a → pick a b x y ≡ y
unfolding pick
pick_high a b x y h = cond-false (ltb a b) x y (le-ltb a b h)

-- where a number is in a list, or the list's length
pub place_in : List ℕ → ℕ → ℕ
place_in [] x = 0
place_in (y ∷ ys) x = pick y x (suc (place_in ys x)) (pick x y (suc (place_in ys x)) 0)

place_here : (y x : ℕ) (ys : List ℕ) → y ≡ x → place_in (y ∷ ys) x ≡ 0
unfolding place_in
place_here y x ys e =
    let more = suc (place_in ys x) in pick_high y x more (pick x y more 0) (omega arith) ∙ pick_high x y more 0
    (omega arith)

place_on : (y x : ℕ) (ys : List ℕ) → y ≢ x → place_in (y ∷ ys) x ≡ suc (place_in ys x)
unfolding place_in
place_on y x ys ne =
    let more = suc (place_in ys x) in
    elim (cases_order y x) [
      | inl e ↦ absurd (ne e)
      | inr apart ↦ elim apart [
        | inl less ↦ pick_low y x more (pick x y more 0) less
        | inr above ↦ pick_high y x more (pick x y more 0) (omega arith) ∙ pick_low x y more 0 above
      ]
    ]

pub place_there : (xs : List ℕ) (x : ℕ) → place_in xs x < length xs → slice_index xs (place_in xs x) ≡ x
place_there [] x h = absurd (omega arith)
place_there (y ∷ ys) x h = elim (cases_eq y x) [
  | inl e ↦ ap (λ k. slice_index (y ∷ ys) k) (place_here y x ys e) ∙ e
  | inr ne ↦
      let on = place_on y x ys ne in
      ap (λ k. slice_index (y ∷ ys) k) on ∙ place_there ys x (omega arith)
]

pub place_has : (xs : List ℕ) (x i : ℕ) → i < length xs → slice_index xs i ≡ x → place_in xs x < length xs
place_has [] x i h e = absurd (omega arith)
place_has (y ∷ ys) x zero h e = let here = place_here y x ys e in omega arith
place_has (y ∷ ys) x (suc i) h e = elim (cases_eq y x) [
  | inl same ↦ let here = place_here y x ys same in omega arith
  | inr ne ↦ let on = place_on y x ys ne in let more = place_has ys x i (omega arith) e in omega arith
]

-- a number that is not in the list
pub place_none : (xs : List ℕ) (x : ℕ) → ¬ HasSector xs x → length xs ≤ place_in xs x
place_none xs x none = elim (cases_lt (place_in xs x) (length xs)) [
  | inl low ↦ absurd (none (record { index = place_in xs x; inside = low; here = place_there xs x low }))
  | inr high ↦ high
]

-- no number twice: each is where it is
pub place_is : (xs : List ℕ) (i : ℕ) → ((i j : ℕ) → i < j → j < length xs → slice_index xs i ≢ slice_index xs j) →
    i < length xs → place_in xs (slice_index xs i) ≡ i
place_is xs i distinct h =
    let x = slice_index xs i in
    let low = place_has xs x i h refl in
    let there = place_there xs x low in
    elim (cases_order (place_in xs x) i) [
      | inl e ↦ e
      | inr apart ↦ elim apart [
        | inl less ↦ absurd (distinct (place_in xs x) i less h there)
        | inr more ↦ absurd (distinct i (place_in xs x) more low (sym there))
      ]
    ]

-- a number whose bytes are at a place
pub spelled : (file : List ℕ) (at x : ℕ) → x < 2 ^ 32 → ((i : ℕ) → i < 4 → slice_index file (at + i) ≡ slice_index
    (number_bytes 4 x) i) → u32_at file at ≡ x
spelled file at x h each =
    number_at-same file (number_bytes 4 x) at 0 4 (λ i low. let place : i ≡ 0 + i = omega arith in each i low ∙ ap
    (λ k. slice_index (number_bytes 4 x) k) place)
    ∙ (ap (λ xs. number_at xs 0 4) (sym (append-nil (number_bytes 4 x))) ∙ number_at-number_bytes 4 x [] (omega arith))
