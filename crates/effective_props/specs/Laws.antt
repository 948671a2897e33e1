-- What the definitions imply.
use Rattle.std.specs.Prelude.{◌≡◌, ◌≢◌, ℕ, ◌%◌, ◌==◌, Bool, true, false, ◌||◌, List, ◌∷◌, ◌++◌, Option, Some, None}
use Rattle.std.specs.Prelude.{if◌then◌else◌}
use Rattle.std.specs.List.{All, count_by}
use Rattle.std.specs.FinMap.{get}
use Rattle.sprm_table.specs.Codes.{class_of}
use Rattle.prop_map.specs.Settings.{Properties}
use Rattle.style_sheet.specs.Sheet.{Sheet}
use Rattle.style_sheet.specs.Chain.{style_kind_at, HasSoundBases}
use Rattle.effective_props.specs.declared.tabs.Tab.{Tab}
use Rattle.effective_props.specs.declared.effective.ParaEffect.{ParaEffect}
use Rattle.effective_props.specs.Toggles.{is_keep, is_turn, opposite, toggle_value}
use Rattle.effective_props.specs.Values.{tabs_code, is_toggle, effective_value, IsEffectiveMap}
use Rattle.effective_props.specs.Stops.{AreStops}
use Rattle.effective_props.specs.Effective.{IsEffectiveCharacter, IsEffectiveParagraph}

-- the value goes by what is there
abbrev pub is_relative : List ℕ → Bool
is_relative value = is_keep value || is_turn value

-- each of the values goes by what is there
abbrev pub AreRelative : List (List ℕ) → Type 0
AreRelative values = All (λ value. is_relative value ≡ true) values

-- a value that was turned round so many times: only whether they are even or odd, and whether there are any, counts
abbrev pub turned_times : ℕ → Option (List ℕ) → Option (List ℕ)
turned_times times before =
    if times == 0 then before else
    if times % 2 == 1 then Some (opposite before) else Some (opposite (Some (opposite before)))

-- a toggle is the last value that goes by nothing, turned round as often as later values say
-- without such a value it is nothing, turned round so
pub record IsSaidByLastValue (values : List (List ℕ)) : Type 0 where
  pub set :
      (front back : List (List ℕ)) (value : List ℕ) → values ≡ front ++ value ∷ back → is_relative value ≡ false →
      AreRelative back → toggle_value values ≡ turned_times (count_by is_turn back) (Some value)
  pub none : AreRelative values → toggle_value values ≡ turned_times (count_by is_turn values) None

abbrev pub ToggleIsSaidByLastValue : Type 0
ToggleIsSaidByLastValue = (values : List (List ℕ)) → IsSaidByLastValue values

-- the effective value at a code that is no toggle is that of the last layer that has it; where none has it there is
-- none
pub record IsDecidedByLastLayer (layers : List Properties) (code : ℕ) : Type 0 where
  pub set :
      (front back : List Properties) (layer : Properties) (value : List ℕ) → layers ≡ front ++ layer ∷ back →
      get layer code ≡ Some value → All (λ other. get other code ≡ None) back → effective_value layers code ≡ Some value
  pub none : All (λ layer. get layer code ≡ None) layers → effective_value layers code ≡ None

abbrev pub LastLayerDecides : Type 0
LastLayerDecides =
    (layers : List Properties) (code : ℕ) → code ≢ tabs_code → is_toggle (class_of code) ≡ false →
    IsDecidedByLastLayer layers code

-- layers make one map
abbrev pub EffectiveMapIsOne : Type 0
EffectiveMapIsOne =
    (layers : List Properties) (one other : Properties) → IsEffectiveMap layers one → IsEffectiveMap layers other →
    one ≡ other

-- layers make one list of tab stops
abbrev pub StopsAreOne : Type 0
StopsAreOne =
    (layers : List Properties) (one other : List Tab) → AreStops layers one → AreStops layers other → one ≡ other

-- a character has one map of effective properties
abbrev pub EffectiveCharacterIsOne : Type 0
EffectiveCharacterIsOne =
    (sheet : Sheet) (istd : ℕ) (direct one other : Properties) →
    IsEffectiveCharacter sheet istd direct one → IsEffectiveCharacter sheet istd direct other → one ≡ other

-- a paragraph mark has one map of effective properties, and one list of tab stops
abbrev pub EffectiveParagraphIsOne : Type 0
EffectiveParagraphIsOne =
    (sheet : Sheet) (istd : ℕ) (direct : Properties) (one other : ParaEffect) →
    IsEffectiveParagraph sheet istd direct one → IsEffectiveParagraph sheet istd direct other → one ≡ other

-- where the bases of a sheet are sound, what is in effect for a character of a paragraph with a style is there
abbrev pub EffectiveCharactersExist : Type 0
EffectiveCharactersExist =
    (sheet : Sheet) (istd : ℕ) (direct : Properties) → HasSoundBases sheet → style_kind_at sheet istd ≡ 1 →
    (map : Properties) × IsEffectiveCharacter sheet istd direct map

-- and for the mark of the paragraph
abbrev pub EffectiveParagraphsExist : Type 0
EffectiveParagraphsExist =
    (sheet : Sheet) (istd : ℕ) (direct : Properties) → HasSoundBases sheet → style_kind_at sheet istd ≡ 1 →
    (effect : ParaEffect) × IsEffectiveParagraph sheet istd direct effect
