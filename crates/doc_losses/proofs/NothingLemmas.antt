-- Lists by their places, of which nothing is kept, listed or joined.
use Rattle.std.proofs.Common.{◌≡◌, ◌∙◌, ap, refl, ℕ, zero, suc, ◌<◌, Bool, false, arith}
use Rattle.std.proofs.Common.{List, [], ◌∷◌, ◌++◌, filter, Option, Some, None}
use Rattle.std.specs.List.{filter_map, flat_map}
use Rattle.std.proofs.lemmas.List.{append-nil}
use Rattle.std.proofs.lemmas.List.Elements.{filter-append, filter_map-append}
use Rattle.std.proofs.lemmas.Grind.{flat_map-append}
use Rattle.doc_parts.specs.Tabulated.{tabulate}
use Rattle.doc_bits.proofs.Public.{one_not_kept}

pub none_kept : (p : ℕ → Bool) (n : ℕ) → ((k : ℕ) → p k ≡ false) → filter p (tabulate (λ k. k) n) ≡ []
unfolding tabulate
none_kept p zero none = refl
none_kept p (suc n) none =
    filter-append p (tabulate (λ (k : ℕ). k) n) (n ∷ [])
    ∙ (ap (λ (l : List ℕ). l ++ filter p (n ∷ [])) (none_kept p n none) ∙ one_not_kept p n (none n))

one_not_listed : {A : Type 0} (o : Option A) → o ≡ None → filter_map (λ (p : Option A). p) (o ∷ []) ≡ []
one_not_listed None is = refl
one_not_listed (Some x) is = absurd (cc is)

pub nothing_listed : {A : Type 0} (f : ℕ → Option A) (n : ℕ) → ((k : ℕ) → k < n → f k ≡ None) →
    filter_map (λ o. o) (tabulate f n) ≡ []
unfolding tabulate
nothing_listed f zero none = refl
nothing_listed {A = A} f (suc n) none =
    filter_map-append (λ (o : Option A). o) (tabulate f n) (f n ∷ [])
    ∙ (ap (λ (l : List A). l ++ filter_map (λ (o : Option A). o) (f n ∷ []))
    (nothing_listed f n (λ k low. none k (omega (arith, low)))) ∙ one_not_listed (f n) (none n (omega arith)))

pub nothing_joined : {A : Type 0} (f : ℕ → List A) (n : ℕ) → ((k : ℕ) → k < n → f k ≡ []) →
    flat_map (λ l. l) (tabulate f n) ≡ []
unfolding tabulate
nothing_joined f zero none = refl
nothing_joined {A = A} f (suc n) none =
    flat_map-append (λ (l : List A). l) (tabulate f n) (f n ∷ [])
    ∙ (ap (λ (l : List A). l ++ flat_map (λ (m : List A). m) (f n ∷ []))
    (nothing_joined f n (λ k low. none k (omega (arith, low)))) ∙ (append-nil (f n) ∙ none n (omega arith)))
