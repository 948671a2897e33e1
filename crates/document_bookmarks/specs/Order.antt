-- Lists put in order, by putting one entry after the other before the first that does not come before it.
use Rattle.std.specs.Prelude.{List, [], ◌∷◌, if◌then◌else◌}
use Rattle.std.specs.Ordering.{is_le}
use Rattle.std.specs.declared.cmp.Ordering.{Ordering}

-- an entry put before the first one that it does not come behind
unfoldable pub put_in : {K : Type 0} → (K → K → Ordering) → K → List K → List K
put_in cmp x [] = x ∷ []
put_in cmp x (y ∷ ys) = if is_le (cmp x y) then x ∷ y ∷ ys else y ∷ put_in cmp x ys

unfoldable pub in_order : {K : Type 0} → (K → K → Ordering) → List K → List K
in_order cmp [] = []
in_order cmp (x ∷ xs) = put_in cmp x (in_order cmp xs)
