-- The bytes of a map: each code once, ascending.
use Rattle.std.specs.Prelude.{◌≡◌, ℕ, List, None}
use Rattle.std.specs.List.{flat_map}
use Rattle.std.specs.FinMap.{entries, empty}
use Rattle.sprm_table.specs.Sprm.{Prl, spelling, SpellsSprmList, IsAcceptedList}
use Rattle.prop_map.specs.Settings.{Properties}
use Rattle.prop_map.specs.Acting.{ArePropertiesAfter, style_named}
use Rattle.prop_map.specs.Formed.{IsPropertyMap}

-- the bytes of the entries, one after the other
abbrev pub printed_list : Properties → List ℕ
printed_list map = flat_map spelling (entries map)

-- whatever list the bytes spell, acting with it on the empty map gives the map, where the place holds its codes
abbrev pub IsMapReadBack : List ℕ → Properties → Type 0
IsMapReadBack bytes map =
    (groups : ℕ) (prls : List Prl) → IsPropertyMap groups map → SpellsSprmList bytes prls →
    ArePropertiesAfter prls groups empty map × (style_named prls groups ≡ None)

-- the bytes spell the entries of the map, no place finds a fault in them, and they are read back as the map
pub record IsPrintOf (map : Properties) (bytes : List ℕ) : Type 0 where
  pub spelt : SpellsSprmList bytes (entries map)
  pub accepted : (groups : ℕ) → IsAcceptedList bytes groups
  pub back : IsMapReadBack bytes map
