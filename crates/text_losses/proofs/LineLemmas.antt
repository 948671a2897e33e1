-- Lines one behind the other.
use Rattle.std.proofs.Common.{◌≡◌, ◌∙◌, ap, ℕ, ◌+◌, List, [], ◌∷◌, ◌++◌, take, Some, slice_get}
use Rattle.std.specs.List.{flat_map}
use Rattle.std.proofs.lemmas.List.{append-nil, take_more}
use Rattle.std.proofs.lemmas.Grind.{flat_map-append}
use Rattle.std.proofs.lemmas.Option.{slice_get_within, get_or_from_slice_get}

-- one more
pub flat_map-more : {A B : Type 0} (f : A → List B) (xs : List A) (k : ℕ) (x : A) → slice_get xs k ≡ Some x →
    flat_map f (take (k + 1) xs) ≡ flat_map f (take k xs) ++ f x
flat_map-more {A = A} {B = B} f xs k x is =
    ap (flat_map f) (take_more xs k x (slice_get_within xs k x is)
    ∙ ap (λ (y : A). take k xs ++ y ∷ []) (get_or_from_slice_get xs k x x is))
    ∙ (flat_map-append f (take k xs) (x ∷ [])
    ∙ ap (λ (l : List B). flat_map f (take k xs) ++ l) (append-nil (f x)))
