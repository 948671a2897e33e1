-- A list of what is at each place.
use Rattle.std.proofs.Common.{◌≡◌, refl, ap, subst, ℕ, zero, suc, ◌<◌, List, [], ◌∷◌, length, Some, arith}
use Rattle.std.specs.Prelude.{slice_get}
use Rattle.std.specs.Option.{unwrap_or}
use Rattle.std.proofs.lemmas.Option.{slice_get_within}

-- a list of so many values, each of which is such at its place
pub record HasList {A : Type 0} (n : ℕ) (Is : ℕ → A → Type 0) : Type 0 where
  pub list : List A
  pub len : length list ≡ n
  pub each : (k : ℕ) (x : A) → slice_get list k ≡ Some x → Is k x

each_of : {A : Type 0} (Is : ℕ → A → Type 0) (x : A) (xs : List A) → Is 0 x → ((k : ℕ) (y : A) → slice_get xs k ≡ Some
    y → Is (suc k) y) → (k : ℕ) (y : A) → slice_get (x ∷ xs) k ≡ Some y → Is k y
each_of Is x xs first others zero y here = subst (Is 0) (ap (λ o. unwrap_or o x) here) first
each_of Is x xs first others (suc k) y here = others k y here

pub list_of : {A : Type 0} (n : ℕ) (Is : ℕ → A → Type 0) → ((k : ℕ) → k < n → (x : A) × Is k x) → HasList n Is
list_of zero Is at = record {
  list = [];
  len = refl;
  each = λ k x here. absurd (let within = slice_get_within [] k x
      here in omega arith);
}
list_of (suc n) Is at =
    let first = at 0 (omega arith) in
    let others = list_of n (λ k. Is (suc k)) (λ k below. at (suc k) (omega arith)) in
    record {
      list = first.0 ∷ others.list;
      len = ap suc others.len;
      each = each_of Is first.0 others.list first.1 others.each;
    }
