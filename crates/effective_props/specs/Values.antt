-- The effective value at a code, by the values that the layers have there. The first layer is the root of a chain of
-- styles, the last one the direct properties.
use Rattle.std.specs.Prelude.{◌≡◌, ℕ, Bool, true, false, ◌==◌, List, Option, None, if◌then◌else◌}
use Rattle.std.specs.List.{filter_map, last_or}
use Rattle.std.specs.FinMap.{get}
use Rattle.sprm_table.specs.declared.codes.Class.{Class}
use Rattle.sprm_table.specs.declared.codes.Class.TheVariants.{Plain, Toggle, Clear, Style, Refused}
use Rattle.sprm_table.specs.Codes.{class_of}
use Rattle.prop_map.specs.Settings.{Properties}
use Rattle.effective_props.specs.Toggles.{toggle_value}

-- [MS-DOC] sprmPChgTabsPapx
abbrev pub tabs_code : ℕ
tabs_code = 0xC60D

abbrev pub is_toggle : Class → Bool
is_toggle Plain = false
is_toggle Toggle = true
is_toggle Clear = false
is_toggle Style = false
is_toggle Refused = false

-- the values that the layers have at a code, in the order of the layers
abbrev pub values_at : List Properties → ℕ → List (List ℕ)
values_at layers code = filter_map (λ layer. get layer code) layers

-- what values of one code make together: those of a toggle act in turn, and of others the last one counts
abbrev pub combined_value : ℕ → List (List ℕ) → Option (List ℕ)
combined_value code values = if is_toggle (class_of code) then toggle_value values else last_or None values

-- the effective value at a code; changes of tab stops make stops, and no value
abbrev pub effective_value : List Properties → ℕ → Option (List ℕ)
effective_value layers code = if code == tabs_code then None else combined_value code (values_at layers code)

-- the map has the effective value of each code
abbrev pub IsEffectiveMap : List Properties → Properties → Type 0
IsEffectiveMap layers map = (code : ℕ) → get map code ≡ effective_value layers code
