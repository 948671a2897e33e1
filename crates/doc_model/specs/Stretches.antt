-- A list cut into its maximal stretches: within a stretch each element joins the next one, and none joins the first of
-- the stretch after it.
use Rattle.std.specs.Prelude.{◌≡◌, ℕ, ◌+◌, ◌-◌, ◌<◌, ◌≤◌, Bool, true, false, if◌then◌else◌, List, [], ◌∷◌, length}
use Rattle.std.specs.Prelude.{Option, Some, None, slice_get}
use Rattle.std.specs.List.{All, flat_map}
use Rattle.doc_model.specs.declared.item.Item.{Item}

-- an element before the stretches of what follows it: it begins the first one where it joins the element that this
-- began with
abbrev pub stretch_from : {A : Type 0} → (A → A → Bool) → A → List (List A) → List (List A)
stretch_from joins x [] = (x ∷ []) ∷ []
stretch_from joins x ([] ∷ more) = (x ∷ []) ∷ more
stretch_from joins x ((y ∷ ys) ∷ more) = if joins x y then (x ∷ y ∷ ys) ∷ more else (x ∷ []) ∷ (y ∷ ys) ∷ more

-- the stretches of a list
unfoldable pub stretches : {A : Type 0} → (A → A → Bool) → List A → List (List A)
stretches joins [] = []
stretches joins (x ∷ xs) = stretch_from joins x (stretches joins xs)

-- the element joins the one after it, which is there
abbrev pub joins_next : {A : Type 0} → (A → A → Bool) → Option A → Option A → Bool
joins_next joins None other = false
joins_next joins (Some x) None = false
joins_next joins (Some x) (Some y) = joins x y

abbrev pub joins_at : {A : Type 0} → (A → A → Bool) → List A → ℕ → Bool
joins_at joins xs k = joins_next joins (slice_get xs k) (slice_get xs (k + 1))

-- the list begins with a stretch of this length
pub record BeginsStretch {A : Type 0} (joins : A → A → Bool) (xs : List A) (len : ℕ) : Type 0 where
  pub some : 1 ≤ len
  pub within : len ≤ length xs
  pub joined : (k : ℕ) → k + 1 < len → joins_at joins xs k ≡ true
  pub ends : joins_at joins xs (len - 1) ≡ false

-- in a stretch each element joins the next one
abbrev pub IsJoinedStretch : {A : Type 0} → (A → A → Bool) → List A → Type 0
IsJoinedStretch joins part = (k : ℕ) → k + 1 < length part → joins_at joins part k ≡ true

-- the last element of a part joins the first one of another
abbrev pub goes_over : {A : Type 0} → (A → A → Bool) → List A → List A → Bool
goes_over joins one next = joins_next joins (slice_get one (length one - 1)) (slice_get next 0)

-- the parts are the list, in its order; each is a stretch that is not empty, and none goes over into the next one
pub record AreStretches {A : Type 0} (joins : A → A → Bool) (xs : List A) (parts : List (List A)) : Type 0 where
  pub whole : flat_map (λ part. part) parts ≡ xs
  pub some : All (λ part. 0 < length part) parts
  pub joined : All (IsJoinedStretch joins) parts
  pub apart :
      (i : ℕ) (one next : List A) → slice_get parts i ≡ Some one → slice_get parts (i + 1) ≡ Some next →
      goes_over joins one next ≡ false

-- the stretches of items are stretches
abbrev pub ItemsAreCutIntoStretches : Type 0
ItemsAreCutIntoStretches =
    (joins : Item → Item → Bool) (items : List Item) → AreStretches joins items (stretches joins items)

-- and there are no others
abbrev pub StretchesAreOne : Type 0
StretchesAreOne =
    (joins : Item → Item → Bool) (items : List Item) (one other : List (List Item)) →
    AreStretches joins items one → AreStretches joins items other → one ≡ other
