-- Lists entry by entry.
use Rattle.std.proofs.Common.{◌≡◌, ◌∙◌, sym, subst, inl, inr, ℕ, ◌+◌, ◌-◌, ◌<◌, List, [], ◌∷◌, ◌++◌, length, get_or, arith}
use Rattle.std.proofs.Common.{Option, Some, None}
use Rattle.std.specs.Prelude.{option_map, replicate, MatchOption}
use Rattle.std.proofs.Math.Seq.{get_or-append_seam, get_or-append_right}
use Rattle.std.proofs.lemmas.Bool.{cases_lt}
use Rattle.std.proofs.lemmas.List.{length-append, length-replicate, get_or_append_left, get_or-replicate}

-- what holds of each entry holds of each with one more
pub each_more : {A : Type 0} (P : ℕ → A → Type 0) (xs : List A) (x d : A) →
    ((k : ℕ) → k < length xs → P k (get_or xs k d)) → P (length xs) x →
    (k : ℕ) → k < length (xs ++ x ∷ []) → P k (get_or (xs ++ x ∷ []) k d)
each_more P xs x d each here = λ k low. elim (cases_lt k (length xs)) [
  | inl lo ↦ subst (P k) (sym (get_or_append_left xs (x ∷ []) d k lo)) (each k lo)
  | inr hi ↦
      let last : length xs ≡ k = omega (arith, low, hi, length-append xs (x ∷ [])) in
      subst (λ n. P n (get_or (xs ++ x ∷ []) n d)) last (subst (P (length xs)) (sym (get_or-append_seam xs x [] d)) here)
]

-- what holds of each entry, and of one in each of the next places, holds of each with so many more of that one
pub each_run : {A : Type 0} (P : ℕ → A → Type 0) (xs : List A) (n : ℕ) (x d : A) →
    ((k : ℕ) → k < length xs → P k (get_or xs k d)) → ((k : ℕ) → k < n → P (length xs + k) x) →
    (k : ℕ) → k < length (xs ++ replicate n x) → P k (get_or (xs ++ replicate n x) k d)
each_run P xs n x d each here = λ k low. elim (cases_lt k (length xs)) [
  | inl lo ↦ subst (P k) (sym (get_or_append_left xs (replicate n x) d k lo)) (each k lo)
  | inr hi ↦
      let within : k - length xs < n = omega (arith, low, hi, length-append xs (replicate n x), length-replicate n x) in
      let at : length xs + (k - length xs) ≡ k = omega (arith, hi) in
      subst (P k) (sym (get_or-append_right xs (replicate n x) k d hi ∙ get_or-replicate n (k - length xs) x d within))
      (subst (λ i. P i x) at (here (k - length xs) within))
]

-- what is matched of the view of a value is matched of the value
pub matched : {A B : Type 0} (f : A → B) (o : Option A) (P : Type 0) (Q : B → Type 0) →
    MatchOption (option_map f o) P Q → MatchOption o P (λ x. Q (f x))
matched f None P Q is = is
matched f (Some x) P Q is = is
