-- The last place where something is, and lists with one more entry.
use Rattle.std.proofs.Common.{◌≡◌, ◌≢◌, ◌⊎◌, inl, inr, ℕ, zero, suc, ℤ, ◌<◌, true, false, List, [], ◌∷◌, ◌++◌, length}
use Rattle.std.proofs.Common.{Some, None, refl, sym, arith, subst}
use Rattle.std.proofs.lemmas.Bool.{cases_lt}
use Rattle.std.specs.Ordering.{int_eq}
use Rattle.std.specs.Cmp.{signed_Decides}
use Rattle.std.specs.List.{slice_get}

-- ---- the last of the first n places where f is p

pub record IsLastPlace (f : ℕ → ℤ) (p : ℤ) (n place : ℕ) : Type 0 where
  pub within : place < n
  pub at : f place ≡ p
  pub last : (later : ℕ) → place < later → later < n → f later ≢ p

pub last_place : (f : ℕ → ℤ) (p : ℤ) (n : ℕ) → ((place : ℕ) × IsLastPlace f p n place) ⊎ ((i : ℕ) → i < n → f i ≢ p)
last_place f p zero = inr (λ i l. absurd (omega arith))
last_place f p (suc n) =
    elim (int_eq (f n) p) as (λ b. int_eq (f n) p ≡ b → ((place : ℕ) × IsLastPlace f p (suc n) place) ⊎ ((i : ℕ) →
    i < suc n → f i ≢ p)) [
      | true ↦ λ e. inl (
        n,
        record {
          within = omega arith;
          at = (signed_Decides (f n) p).0 e;
          last = λ later a b.
              absurd (omega arith);
        },
      )
      | false ↦ λ e.
          let here : f n ≢ p = λ is. absurd (cc ((signed_Decides (f n) p).1 is, e)) in
          elim (last_place f p n) [
            | inl h ↦ inl (
              h.0,
              record {
                within = omega (arith, h.1.within);
                at = h.1.at;
                last = λ later a b.
                    at_or_below f p n later b here (h.1.last later a);
              },
            )
            | inr none ↦ inr (λ i l. at_or_below f p n i l here (none i))
          ]
    ] refl
  where
    at_or_below : (f : ℕ → ℤ) (p : ℤ) (n i : ℕ) → i < suc n → f n ≢ p → (i < n → f i ≢ p) → f i ≢ p
    at_or_below f p n i l here below =
        elim (cases_lt i n) [
          | inl less ↦ below less
          | inr more ↦ let same : i ≡ n = omega arith in subst (λ k. f k ≢ p) (sym same) here
        ]

-- ---- lists with one more entry

pub get_old : {X : Type 0} → (xs : List X) (y : X) (i : ℕ) → i < length xs → slice_get (xs ++ y ∷ []) i ≡ slice_get xs i
get_old [] y i l = absurd (omega arith)
get_old (x ∷ xs) y zero l = refl
get_old (x ∷ xs) y (suc i) l = get_old xs y i (omega arith)

pub get_new : {X : Type 0} → (xs : List X) (y : X) → slice_get (xs ++ y ∷ []) (length xs) ≡ Some y
get_new [] y = refl
get_new (x ∷ xs) y = get_new xs y

pub get_past : {X : Type 0} → (xs : List X) (y : X) (i : ℕ) → length xs < i → slice_get (xs ++ y ∷ []) i ≡ None
get_past [] y zero l = absurd (omega arith)
get_past [] y (suc i) l = refl
get_past (x ∷ xs) y zero l = absurd (omega arith)
get_past (x ∷ xs) y (suc i) l = get_past xs y i (omega arith)

pub get_within : {X : Type 0} → (xs : List X) (i : ℕ) (x : X) → slice_get xs i ≡ Some x → i < length xs
get_within [] i x e = cc
get_within (y ∷ xs) zero x e = omega arith
get_within (y ∷ xs) (suc i) x e = let h = get_within xs i x e in omega (arith, h)

pub some_is : {X : Type 0} → (x y : X) → Some x ≡ Some y → x ≡ y
some_is x y e = cc
