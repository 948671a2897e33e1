-- The items of a run of what is beside units.
use Rattle.std.specs.Prelude.{◌≡◌, ℕ, ◌+◌, ◌<◌, ◌≤◌, List, Some, slice_get, slice_range, replicate}
use Rattle.prop_map.specs.Settings.{Properties}
use Rattle.run_lists.specs.declared.runs.Run.{Run}
use Rattle.doc_model.specs.declared.item.Item.{Item}
use Rattle.doc_model.specs.Document.{HasPropertyMaps}
use Rattle.doc_columns.specs.declared.attached.Attached.{Attached}
use Rattle.doc_columns.specs.Columns.{item_of, items_of}

-- each item of a run that begins at a place has maps of its places' groups
abbrev pub HasMapsWith : List ℕ → List Properties → ℕ → Run Attached → Type 0
HasMapsWith units chps place run =
    (at unit : ℕ) (chp : Properties) → place ≤ at → at < place + run.count → slice_get units at ≡ Some unit →
    slice_get chps at ≡ Some chp → HasPropertyMaps (item_of unit chp run.value)

-- the entries of a column at the places of a run that begins at a place
abbrev pub run_range : {A : Type 0} → List A → ℕ → Run Attached → List A
run_range column place run = slice_range column place (place + run.count)

-- the items of a run that begins at a place
abbrev pub run_items : List ℕ → List Properties → ℕ → Run Attached → List Item
run_items units chps place run =
    items_of (run_range units place run) (run_range chps place run) (replicate run.count run.value)
