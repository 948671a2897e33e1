-- The first element that passes a test.
use Rattle.std.proofs.Common.{◌≡◌, ◌∙◌, ℕ, zero, suc, ◌<◌, Bool, true, false, cond, List, [], ◌∷◌, length, take}
use Rattle.std.proofs.Common.{Option, Some, None, get_or, refl, sym, ap, subst, arith}
use Rattle.std.specs.Prelude.{find, is_some, map, ◌||◌}
use Rattle.std.specs.List.{list_any}

passed_over : {A : Type 0} (passes : Bool) (y : A) (later : Option A) → cond passes (Some y) later ≡ None →
    (passes ≡ false) × (later ≡ None)
passed_over true y later h = absurd (cc (h))
passed_over false y later h = (refl, h)

-- the first one, where none before it passes
pub find_here : {A : Type 0} (p : A → Bool) (xs : List A) (i : ℕ) (x : A) → i < length xs → x ≡ get_or xs i x →
    find p (take i xs) ≡ None → p x ≡ true → find p xs ≡ Some x
find_here p [] i x low e none passes = absurd (omega arith)
find_here p (y ∷ ys) zero x low e none passes =
    ap (λ t. cond t (Some y) (find p ys)) (subst (λ z. p z ≡ true) e passes) ∙ sym (ap (λ z. Some z) e)
find_here p (y ∷ ys) (suc i) x low e none passes =
    let w = passed_over (p y) y (find p (take i ys)) none in
    ap (λ t. cond t (Some y) (find p ys)) w.0 ∙ find_here p ys i x (omega arith) e w.1 passes

-- one more that does not pass
pub find_none_more : {A : Type 0} (p : A → Bool) (xs : List A) (i : ℕ) (x : A) → i < length xs → x ≡ get_or xs i x →
    find p (take i xs) ≡ None → p x ≡ false → find p (take (suc i) xs) ≡ None
find_none_more p [] i x low e none fails = absurd (omega arith)
find_none_more p (y ∷ ys) zero x low e none fails =
    ap (λ t. cond t (Some y) None) (subst (λ z. p z ≡ false) e fails)
find_none_more p (y ∷ ys) (suc i) x low e none fails =
    let w = passed_over (p y) y (find p (take i ys)) none in
    ap (λ t. cond t (Some y) (find p (take (suc i) ys))) w.0 ∙ find_none_more p ys i x (omega arith) e w.1 fails

any_or_found : {A : Type 0} (passes : Bool) (x : A) (later : Bool) (found : Option A) → later ≡ is_some found →
    (passes ||
    later) ≡ is_some (cond passes (Some x) found)
any_or_found true x later found e = refl
any_or_found false x later found e = e

-- something is found exactly where something passes
pub is_some-find : {A B : Type 0} (p : B → Bool) (f : A → B) (xs : List A) → list_any p (map f xs) ≡ is_some
    (find (λ x. p (f x)) xs)
is_some-find p f [] = refl
is_some-find p f (x ∷ xs) = any_or_found (p (f x)) x (list_any p (map f xs)) (find (λ y. p (f y)) xs)
    (is_some-find p f xs)
