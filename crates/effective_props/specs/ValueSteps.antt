-- One layer laid over those before it.
use Rattle.std.specs.Prelude.{◌≡◌, ℕ, ◌==◌, List, Option, Some, None, if◌then◌else◌}
use Rattle.std.specs.FinMap.{get}
use Rattle.sprm_table.specs.Codes.{class_of}
use Rattle.prop_map.specs.Settings.{Properties}
use Rattle.effective_props.specs.Toggles.{toggled}
use Rattle.effective_props.specs.Values.{tabs_code, is_toggle}

-- a value laid over the value so far
abbrev pub value_laid_over : ℕ → Option (List ℕ) → List ℕ → Option (List ℕ)
value_laid_over code before value = if is_toggle (class_of code) then toggled before value else Some value

-- what a layer, which may have a value at the code, makes of the value so far
abbrev pub layer_over : ℕ → Option (List ℕ) → Option (List ℕ) → Option (List ℕ)
layer_over code before None = before
layer_over code before (Some value) = if code == tabs_code then before else value_laid_over code before value

-- the map with one more value
abbrev pub IsValueOver : ℕ → List ℕ → Properties → Properties → Type 0
IsValueOver code value old new =
    (other : ℕ) → get new other ≡ (if other == code then layer_over code (get old code) (Some value) else get old other)

-- the map with one more layer
abbrev pub IsLayerOver : Properties → Properties → Properties → Type 0
IsLayerOver layer old new = (code : ℕ) → get new code ≡ layer_over code (get old code) (get layer code)
