-- How far a change of stops has come.
use Rattle.std.specs.Prelude.{◌≡◌, ◌≢◌, ◌⊎◌, ℕ, ℤ, ◌<◌, List, Option, Some, None}
use Rattle.std.specs.Ordering.{int_cmp}
use Rattle.std.specs.BTreeMap.{BTreeMap, get}
use Rattle.prop_map.specs.Settings.{Properties}
use Rattle.effective_props.specs.declared.tabs.Tab.{Tab}
use Rattle.effective_props.specs.TabChange.{deleted_count, deleted_position, added_count, added_position, added_kind}
use Rattle.effective_props.specs.Stops.{HasTabChange}

-- stops by their positions: the kind of each
abbrev pub KindsOfStops : Type 0
KindsOfStops = ℤ → Option ℕ

-- those of a tree
abbrev pub kinds_in : BTreeMap ℤ ℕ → KindsOfStops
kinds_in stops = λ position. get int_cmp stops position

-- the first n deleted positions have no stop
pub record DeletesUpTo (value : List ℕ) (n : ℕ) (old new : KindsOfStops) : Type 0 where
  pub gone : (i : ℕ) → i < n → new (deleted_position value i) ≡ None
  pub kept :
      (position : ℤ) → ((i : ℕ) → i < n → deleted_position value i ≢ position) →
      new position ≡ old position

-- the first n added positions have a stop, of the last kind
pub record AddsUpTo (value : List ℕ) (n : ℕ) (old new : KindsOfStops) : Type 0 where
  pub there :
      (i : ℕ) → i < n → ((j : ℕ) → i < j → j < n → added_position value j ≢ added_position value i) →
      new (added_position value i) ≡ Some (added_kind value i)
  pub kept :
      (position : ℤ) → ((i : ℕ) → i < n → added_position value i ≢ position) →
      new position ≡ old position

-- the value's positions are deleted, and then added
pub record ChangesBy (value : List ℕ) (old new : KindsOfStops) : Type 0 where
  pub between : KindsOfStops
  pub deletes : DeletesUpTo value (deleted_count value) old between
  pub adds : AddsUpTo value (added_count value) between new

-- the layer has no change, or its change is done
abbrev pub ChangesByLayer : Properties → KindsOfStops → KindsOfStops → Type 0
ChangesByLayer layer old new =
    (((value : List ℕ) → ¬ (HasTabChange layer value)) × ((position : ℤ) → new position ≡ old position)) ⊎
    ((value : List ℕ) × (HasTabChange layer value × ChangesBy value old new))

-- a stop of the tree
abbrev pub tab_of : ℤ × ℕ → Tab
tab_of entry = record { at = entry.0; kind = entry.1 }
