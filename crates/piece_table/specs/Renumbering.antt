-- Modifiers that were composed or copied, and the numbers of the new ones beside those of the old.
use Rattle.std.specs.Prelude.{◌≡◌, ◌≢◌, ℕ, ◌<◌, ◌≤◌, List, length, Some, slice_get, slice_index, slice_index_or}
use Rattle.prop_map.specs.declared.modifiers.Modifier.{Modifier}
use Rattle.prop_map.specs.Modifiers.{no_modifier, IsComposed, StaysFormedModifier}

-- the modifier at the one number is that at the other, composed
pub record IsComposedAt (by : Modifier) (modifiers : List Modifier) (number made : ℕ) : Type 0 where
  pub within : made < length modifiers
  pub composed : IsComposed (slice_index_or modifiers number no_modifier) by (slice_index_or modifiers made no_modifier)
  pub formed : StaysFormedModifier (slice_index_or modifiers number no_modifier) by (slice_index_or modifiers made
      no_modifier)

-- beside a number is that of the composed modifier, or 0
pub record HaveComposed (by : Modifier) (modifiers : List Modifier) (numbers : List ℕ) : Type 0 where
  pub short : length numbers ≤ length modifiers
  pub each : (number : ℕ) → slice_index numbers number ≢ 0 → IsComposedAt by modifiers number (slice_index numbers
      number)

-- the modifier at the one number of the old list is that at the other of the new list
pub record IsCopiedAt (old new : List Modifier) (number copy : ℕ) : Type 0 where
  pub within : copy < length new
  pub same : slice_index_or new copy no_modifier ≡ slice_index_or old number no_modifier

-- beside a number is that of the copy, or 0; the first modifier stays the one that does nothing
pub record HaveCopied (old new : List Modifier) (numbers : List ℕ) : Type 0 where
  pub first : slice_get new 0 ≡ Some no_modifier
  pub none : slice_index numbers 0 ≡ 0
  pub each : (number : ℕ) → slice_index numbers number ≢ 0 → IsCopiedAt old new number (slice_index numbers number)
