-- Lists by their places.
use Rattle.std.proofs.Common.{◌≡◌, inl, inr, ℕ, zero, suc, ◌+◌, ◌<◌, [], ◌∷◌, ◌++◌, length, Some, refl, sym, ap, ◌∙◌}
use Rattle.std.proofs.Common.{subst, arith}
use Rattle.std.specs.Prelude.{slice_get}
use Rattle.std.proofs.lemmas.Bool.{cases_lt}
use Rattle.doc_bits.proofs.Public.{slice_get_push, slice_get_before}
use Rattle.doc_parts.specs.Tabulated.{tabulate}
use Rattle.doc_parts.proofs.Public.{tabulate-next, length-tabulate}

pub tabulate_zero : {A : Type 0} (f : ℕ → A) → tabulate f 0 ≡ []
unfolding tabulate
tabulate_zero f = refl

-- functions that agree give the same list
pub tabulate_same : {A : Type 0} (f g : ℕ → A) (n : ℕ) → ((i : ℕ) → i < n → f i ≡ g i) → tabulate f n ≡ tabulate g n
unfolding tabulate
tabulate_same f g zero same = refl
tabulate_same f g (suc n) same =
    rw (tabulate_same f g n (λ i h. same i (omega arith)), same n (omega arith)) refl

-- what is at a place
pub slice_get-tabulate : {A : Type 0} (f : ℕ → A) (n i : ℕ) → i < n → slice_get (tabulate f n) i ≡ Some (f i)
unfolding tabulate
slice_get-tabulate f zero i low = absurd (omega arith)
slice_get-tabulate f (suc n) i low =
    let size : length (tabulate f n) ≡ n = length-tabulate f n in
    elim (cases_lt i n) [
      | inl before ↦
          slice_get_before (tabulate f n) (f n ∷ []) i (omega arith) ∙ slice_get-tabulate f n i before
      | inr last ↦
          let e : i ≡ n = omega arith in
          let here : length (tabulate f n) ≡ i = size ∙ sym e in
          subst (λ k. slice_get (tabulate f n ++ f n ∷ []) k ≡ Some (f i)) here (slice_get_push (tabulate f n) (f n)
          ∙ ap (λ k. Some (f k)) (sym e))
    ]

-- both ends of a tabulated list
pub ruleset tabulate_steps = (tabulate_zero, tabulate-next)
