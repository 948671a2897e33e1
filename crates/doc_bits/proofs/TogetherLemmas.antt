-- What is at places of lists that are together, or one behind the other, and parts of such lists.
use Rattle.std.specs.Prelude.{slice_get}
use Rattle.std.proofs.Common.{◌≡◌, ◌∙◌, inl, inr, sym, ap, ℕ, suc, ◌+◌, ◌-◌, ◌<◌, List, [], ◌∷◌, ◌++◌, length, take}
use Rattle.std.proofs.Common.{drop, Some, arith}
use Rattle.std.proofs.lemmas.Bool.{cases_lt}
use Rattle.std.proofs.lemmas.List.{length-append, length-take, length-drop, take-append-drop}
use Rattle.std.proofs.lemmas.Option.{slice_get_within}
use Rattle.doc_bits.proofs.ListLemmas.{there_is, slice_get_before, slice_get-take}
use Rattle.doc_bits.specs.Together.{AreTogether}

-- what is in the first list is in the joined one
pub in_front : {A : Type 0} (xs ys : List A) (k : ℕ) (x : A) → slice_get xs k ≡ Some x →
    slice_get (xs ++ ys) k ≡ Some x
in_front xs ys k x here = slice_get_before xs ys k (slice_get_within xs k x here) ∙ here

-- what is in the second one is there behind the first
pub from_behind : {A : Type 0} (xs ys : List A) (k : ℕ) → slice_get (xs ++ ys) (length xs + k) ≡ slice_get ys k
from_behind [] ys k = let e : 0 + k ≡ k = omega arith in ap (slice_get ys) e
from_behind (x ∷ xs) ys k =
    let e : length (x ∷ xs) + k ≡ suc (length xs + k) = omega arith in
    ap (slice_get (x ∷ (xs ++ ys))) e ∙ from_behind xs ys k

pub in_back : {A : Type 0} (xs ys : List A) (k at : ℕ) (x : A) → slice_get ys k ≡ Some x → at ≡ length xs + k →
    slice_get (xs ++ ys) at ≡ Some x
in_back xs ys k at x here e = ap (slice_get (xs ++ ys)) e ∙ (from_behind xs ys k ∙ here)

-- what is beside it in the other list
pub record Beside {A B : Type 0} (Belongs : A → B → Type 0) (xs : List A) (k : ℕ) (y : B) : Type 0 where
  pub other : A
  pub here : slice_get xs k ≡ Some other
  pub is : Belongs other y

pub beside : {A B : Type 0} (Belongs : A → B → Type 0) (xs : List A) (ys : List B) (k : ℕ) (y : B) →
    AreTogether Belongs xs ys → slice_get ys k ≡ Some y → Beside Belongs xs k y
beside Belongs xs ys k y together here =
    let below : k < length xs = omega (arith, slice_get_within ys k y here, together.len) in
    let found = there_is xs k below in
    record { other = found.0; here = found.1; is = together.each k found.0 y found.1 here }

-- ---- parts of lists that are together, and lists that are joined of such

pub together_joined : {A B : Type 0} (P : A → B → Type 0) (xs : List A) (ys : List B) (us : List A) (vs : List B) →
    AreTogether P xs ys → AreTogether P us vs → AreTogether P (xs ++ us) (ys ++ vs)
together_joined P xs ys us vs first next = record {
  len = omega (arith, first.len, next.len, length-append xs us, length-append ys vs);
  each = λ k x y here there. elim (cases_lt k (length xs)) [
    | inl low ↦
        first.each k x y (sym (slice_get_before xs us k low) ∙ here)
        (sym (slice_get_before ys vs k (omega (arith, low, first.len))) ∙ there)
    | inr high ↦
        let n : ℕ = k - length xs in
        let a : length xs + n ≡ k = omega (arith, high) in
        let b : length ys + n ≡ k = omega (arith, a, first.len) in
        next.each n x y (sym (from_behind xs us n) ∙ (ap (slice_get (xs ++ us)) a ∙ here))
        (sym (from_behind ys vs n) ∙ (ap (slice_get (ys ++ vs)) b ∙ there))
  ];
}

pub together_take : {A B : Type 0} (P : A → B → Type 0) (n : ℕ) (xs : List A) (ys : List B) → AreTogether P xs ys →
    AreTogether P (take n xs) (take n ys)
together_take P n xs ys together = record {
  len = omega (arith, together.len, length-take n xs, length-take n ys);
  each = λ k x y here there. together.each k x y (slice_get-take n xs k x here) (slice_get-take n ys k y there);
}

-- what is behind the first entries
pub got_drop : {A : Type 0} (n : ℕ) (xs : List A) (k : ℕ) (x : A) → slice_get (drop n xs) k ≡ Some x →
    slice_get xs (n + k) ≡ Some x
got_drop n xs k x here = elim (cases_lt n (length xs)) [
  | inl low ↦
      let len : length (take n xs) ≡ n = omega (arith, length-take n xs, low) in
      let at : n + k ≡ length (take n xs) + k = omega (arith, len) in
      ap (λ l. slice_get l (n + k)) (sym (take-append-drop n xs))
      ∙ in_back (take n xs) (drop n xs) k (n + k) x here at
  | inr high ↦
      let within = slice_get_within (drop n xs) k x here in
      absurd (omega (arith, within, high, length-drop n xs))
]

pub together_drop : {A B : Type 0} (P : A → B → Type 0) (n : ℕ) (xs : List A) (ys : List B) → AreTogether P xs ys →
    AreTogether P (drop n xs) (drop n ys)
together_drop P n xs ys together = record {
  len = omega (arith, together.len, length-drop n xs, length-drop n ys);
  each = λ k x y here there. together.each (n + k) x y (got_drop n xs k x here) (got_drop n ys k y there);
}
