-- How far a list has counted, one paragraph on.
use Rattle.std.proofs.Common.{◌≡◌, ℕ, suc, ◌+◌, Bool, true, false, not, cond, List, [], ◌∷◌}
use Rattle.std.proofs.Common.{◌++◌, take, reverse, Option}
use Rattle.std.proofs.Common.{refl, ap, ◌∙◌, arith}
use Rattle.std.proofs.lemmas.List.{reverse-append}
use Rattle.std.proofs.lemmas.List.Sums.{sum_by-cons}
use Rattle.std.specs.List.{count_by, prefix_len, take_while}
use Rattle.list_numbers.specs.declared.list_place.ListPlace.{ListPlace}
use Rattle.list_numbers.specs.Counts.{is_at, is_lower_level, count_at}

while_more : {X : Type 0} (p q : X → Bool) (x : X) (xs : List X) (b : Bool) → q x ≡ b → count_by p (take_while
    (λ y. not (q y)) (x ∷ xs)) ≡ cond b 0 (cond (p x) 1 0 + count_by p (take_while (λ y. not (q y)) xs))
while_more p q x xs true e = rw e refl
while_more p q x xs false e =
    let n : ℕ = prefix_len (λ y. not (q y)) xs in
    let one : 1 + n ≡ suc n = omega arith in
    rw (e, one) (sum_by-cons (λ y. cond (p y) 1 0) x (take n xs))

-- a paragraph at a lower level clears the count, and one at the level counts
pub count_more : (places : List (Option ListPlace)) (place : Option ListPlace) (list level : ℕ) →
    count_at (places ++ place ∷ []) list level ≡ cond (is_lower_level list level place) 0 (cond (is_at list level place)
    1 0
    + count_at places list level)
unfolding count_at
count_more places place list level =
    ap (λ ps. count_by (is_at list level) (take_while (λ p. not (is_lower_level list level p)) ps)) (reverse-append
    places
    (place ∷ []))
    ∙ while_more (is_at list level) (is_lower_level list level) place (reverse places) (is_lower_level list level place)
    refl
