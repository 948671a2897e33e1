-- What the definitions imply.
use Rattle.std.specs.Prelude.{◌≡◌, ◌↔◌, ℕ, Bool, true, false, List, ◌∷◌, ◌++◌, Option, Some, None}
use Rattle.std.specs.Option.{option_or}
use Rattle.std.specs.List.{All}
use Rattle.std.specs.FinMap.{insert}
use Rattle.sprm_table.specs.Sprm.{Prl}
use Rattle.prop_map.specs.declared.modifiers.Modifier.{Modifier}
use Rattle.prop_map.specs.Settings.{Properties}
use Rattle.prop_map.specs.Formed.{IsMapEntry, IsPropertyMap}
use Rattle.prop_map.specs.Acting.{sets_code, clears_code, value_after, style_named, ArePropertiesAfter}
use Rattle.prop_map.specs.Modifiers.{IsModifierOf, IsOver, IsComposed}
use Rattle.prop_map.specs.Overlay.{overlay, cleared_where, composed}

abbrev pub NoneSets : ℕ → ℕ → List Prl → Type 0
NoneSets groups code list = All (λ e. sets_code groups code e ≡ false) list

abbrev pub NoneClears : ℕ → ℕ → List Prl → Type 0
NoneClears groups code list = All (λ e. clears_code groups code e ≡ false) list

-- what a list leaves at a code where `before` was: the value of the last entry that sets it, where no later entry
-- removes
-- it; what was there, where no entry sets or removes it; nothing, where an entry removes it and no later one sets it
pub record IsSaidCodeByCode (groups code : ℕ) (before : Option (List ℕ)) : Type 0 where
  pub set : (front back : List Prl) (prl : Prl) → sets_code groups code prl ≡ true → NoneSets groups code back →
      NoneClears groups code back → value_after (front ++ prl ∷ back) groups code before ≡ Some prl.1
  pub kept : (list : List Prl) → NoneSets groups code list → NoneClears groups code list → value_after list groups
      code before ≡ before
  pub removed : (front back : List Prl) (prl : Prl) → clears_code groups code prl ≡ true → NoneSets groups code back →
      value_after (front ++ prl ∷ back) groups code before ≡ None

abbrev pub SaidCodeByCode : Type 0
SaidCodeByCode = (groups code : ℕ) (before : Option (List ℕ)) → IsSaidCodeByCode groups code before

-- two lists joined act as the first and then the second
pub record IsActedInTurn (first next : List Prl) (groups : ℕ) : Type 0 where
  pub values : (code : ℕ) (before : Option (List ℕ)) → value_after (first ++ next) groups code before ≡ value_after
      next groups code (value_after first groups code before)
  pub style : style_named (first ++ next) groups ≡ option_or (style_named next groups) (style_named first groups)

abbrev pub ListsActInTurn : Type 0
ListsActInTurn = (first next : List Prl) (groups : ℕ) → IsActedInTurn first next groups

-- no two maps are the map after a list
abbrev pub ActingIsOne : Type 0
ActingIsOne = (list : List Prl) (groups : ℕ) (old one other : Properties) → ArePropertiesAfter list groups old one →
    ArePropertiesAfter list groups old other → one ≡ other

-- no two modifiers are that of a list
abbrev pub ModifierIsOne : Type 0
ModifierIsOne = (list : List Prl) (one other : Modifier) → IsModifierOf list one → IsModifierOf list other → one ≡ other

abbrev pub PropertiesStayFormed : Type 0
PropertiesStayFormed = (groups : ℕ) (map : Properties) (prl : Prl) → IsPropertyMap groups map → IsMapEntry groups prl →
    IsPropertyMap groups (insert map prl.0 prl.1)

-- one map put over another is their overlay
abbrev pub OverIsOverlay : Type 0
OverIsOverlay = (clear : Bool) (top base made : Properties) → IsOver clear top base made ↔ made ≡ overlay top
    (cleared_where clear base)

-- one modifier and then another are one modifier
abbrev pub ComposedIsOne : Type 0
ComposedIsOne = (first next made : Modifier) → IsComposed first next made ↔ made ≡ composed first next

-- a map is there after each list
abbrev pub ListsMakeMaps : Type 0
ListsMakeMaps = (list : List Prl) (groups : ℕ) (old : Properties) → (new : Properties) × ArePropertiesAfter list groups
    old new
