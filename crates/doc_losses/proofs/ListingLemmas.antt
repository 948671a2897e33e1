-- Lists by their places, of which some are listed or joined.
use Rattle.std.proofs.Common.{◌≡◌, ◌∙◌, ap, sym, refl, ℕ, zero, suc, ◌+◌, ◌<◌, inl, inr, add-one}
use Rattle.std.proofs.Common.{List, [], ◌∷◌, ◌++◌, arith, Option, Some, None}
use Rattle.std.specs.List.{filter_map, flat_map}
use Rattle.std.proofs.lemmas.Bool.{cases_lt}
use Rattle.std.proofs.lemmas.List.{append-nil}
use Rattle.std.proofs.lemmas.List.Elements.{filter_map-append}
use Rattle.std.proofs.lemmas.Grind.{flat_map-append}
use Rattle.doc_parts.specs.Tabulated.{tabulate}
use Rattle.doc_parts.proofs.Public.{tabulate-next}

-- ---- one more

pub listed_more : {A : Type 0} (f : ℕ → Option A) (n : ℕ) → filter_map (λ o. o) (tabulate f (n + 1)) ≡
    filter_map (λ o. o) (tabulate f n) ++ filter_map (λ o. o) (f n ∷ [])
listed_more {A = A} f n =
    ap (filter_map (λ (o : Option A). o)) (tabulate-next f n)
    ∙ filter_map-append (λ (o : Option A). o) (tabulate f n) (f n ∷ [])

pub joined_more : {A : Type 0} (f : ℕ → List A) (n : ℕ) → flat_map (λ l. l) (tabulate f (n + 1)) ≡
    flat_map (λ l. l) (tabulate f n) ++ f n
joined_more {A = A} f n =
    ap (flat_map (λ (l : List A). l)) (tabulate-next f n)
    ∙ (flat_map-append (λ (l : List A). l) (tabulate f n) (f n ∷ [])
    ∙ ap (λ (l : List A). flat_map (λ (m : List A). m) (tabulate f n) ++ l) (append-nil (f n)))

-- ---- nothing is listed

pub left_nil : {A : Type 0} (xs ys : List A) → xs ++ ys ≡ [] → xs ≡ []
left_nil [] ys is = refl
left_nil (x ∷ xs) ys is = absurd (cc is)

pub right_nil : {A : Type 0} (xs ys : List A) → xs ++ ys ≡ [] → ys ≡ []
right_nil [] ys is = is
right_nil (x ∷ xs) ys is = absurd (cc is)

no_option : {A : Type 0} (o : Option A) → filter_map (λ (p : Option A). p) (o ∷ []) ≡ [] → o ≡ None
no_option None is = refl
no_option (Some x) is = absurd (cc is)

pub none_listed : {A : Type 0} (f : ℕ → Option A) (n : ℕ) → filter_map (λ o. o) (tabulate f n) ≡ [] →
    (i : ℕ) → i < n → f i ≡ None
none_listed f zero is i low = absurd (omega (arith, low))
none_listed {A = A} f (suc n) is i low =
    let parts : filter_map (λ (o : Option A). o) (tabulate f n) ++ filter_map (λ (o : Option A). o) (f n ∷ []) ≡ [] =
    sym (listed_more f n) ∙ (ap (λ (k : ℕ). filter_map (λ (o : Option A). o) (tabulate f k)) (add-one n) ∙ is) in
    elim (cases_lt i n) [
      | inl before ↦
          none_listed f n (left_nil (filter_map (λ (o : Option A). o) (tabulate f n)) (filter_map (λ (o : Option A). o)
          (f n ∷ [])) parts) i before
      | inr here ↦
          let same : i ≡ n = omega (arith, low, here) in
          ap f same
          ∙ no_option (f n) (right_nil (filter_map (λ (o : Option A). o) (tabulate f n))
          (filter_map (λ (o : Option A). o) (f n ∷ [])) parts)
    ]

pub none_joined : {A : Type 0} (f : ℕ → List A) (n : ℕ) → flat_map (λ l. l) (tabulate f n) ≡ [] →
    (i : ℕ) → i < n → f i ≡ []
none_joined f zero is i low = absurd (omega (arith, low))
none_joined {A = A} f (suc n) is i low =
    let parts : flat_map (λ (l : List A). l) (tabulate f n) ++ f n ≡ [] =
    sym (joined_more f n) ∙ (ap (λ (k : ℕ). flat_map (λ (l : List A). l) (tabulate f k)) (add-one n) ∙ is) in
    elim (cases_lt i n) [
      | inl before ↦ none_joined f n (left_nil (flat_map (λ (l : List A). l) (tabulate f n)) (f n) parts) i before
      | inr here ↦
          let same : i ≡ n = omega (arith, low, here) in
          ap f same ∙ right_nil (flat_map (λ (l : List A). l) (tabulate f n)) (f n) parts
    ]
