-- Two lists that are together place by place.
use Rattle.std.specs.Prelude.{◌≡◌, ℕ, List, length, Some, slice_get}

-- they have one length, and what is at each place in the one belongs to what is there in the other
pub record AreTogether {A B : Type 0} (Belongs : A → B → Type 0) (xs : List A) (ys : List B) : Type 0 where
  pub len : length xs ≡ length ys
  pub each : (k : ℕ) (x : A) (y : B) → slice_get xs k ≡ Some x → slice_get ys k ≡ Some y → Belongs x y
