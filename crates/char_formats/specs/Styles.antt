-- What styles make of a format.
use Rattle.std.specs.Prelude.{◌≡◌, ℕ, ◌<◌, List, [], ◌∷◌, ◌++◌, Option, Some, None, slice_get}
use Rattle.prop_map.specs.Settings.{Properties}
use Rattle.style_sheet.specs.Sheet.{Sheet, style_at}
use Rattle.style_sheet.specs.Chain.{style_kind_at}
use Rattle.effective_props.specs.Layers.{character_properties, AreChainLayers, AreNamedLayers}
use Rattle.char_formats.specs.declared.change.Change.{Change}
use Rattle.char_formats.specs.Changes.{IsChangeOf, over_all}

-- the change is that of the layers of the style
pub record IsStyleChange (sheet : Sheet) (istd : ℕ) (change : Change) : Type 0 where
  pub layers : List Properties
  pub are : AreChainLayers character_properties sheet istd layers
  pub said : IsChangeOf (over_all layers) change

-- the change is that of the layers of a style that direct properties may name
pub record IsNamedChange (sheet : Sheet) (named : Option ℕ) (change : Change) : Type 0 where
  pub layers : List Properties
  pub are : AreNamedLayers sheet named layers
  pub said : IsChangeOf (over_all layers) change

-- the change is that of the layers of the style, and then of those of a style that direct properties may name
pub record IsUnderChange (sheet : Sheet) (istd : ℕ) (named : Option ℕ) (change : Change) : Type 0 where
  pub of_style : List Properties
  pub are_style : AreChainLayers character_properties sheet istd of_style
  pub of_named : List Properties
  pub are_named : AreNamedLayers sheet named of_named
  pub said : IsChangeOf (λ code before. over_all of_named code (over_all of_style code before)) change

-- the change is that of the layers below the style's own one
pub record IsBelowStyle (sheet : Sheet) (istd : ℕ) (change : Change) : Type 0 where
  pub layers : List Properties
  pub are : AreChainLayers character_properties sheet istd (layers ++ character_properties (style_at sheet istd) ∷ [])
  pub said : IsChangeOf (over_all layers) change

-- where the list has a change for a style, it is the style's
abbrev pub AreKnownChanges : Sheet → List (Option Change) → Type 0
AreKnownChanges sheet known =
    (istd : ℕ) (change : Change) → slice_get known istd ≡ Some (Some change) → IsStyleChange sheet istd change

-- the change of a slot, where its style has properties
abbrev pub IsSlotChange : Sheet → ℕ → Option Change → Type 0
IsSlotChange sheet istd None = style_kind_at sheet istd ≡ 0
IsSlotChange sheet istd (Some change) = IsStyleChange sheet istd change

-- each style of paragraphs or of characters has its change
abbrev pub AreStyleChanges : Sheet → List (Option Change) → Type 0
AreStyleChanges sheet changes =
    (istd : ℕ) → 0 < style_kind_at sheet istd →
    (change : Change) × ((slice_get changes istd ≡ Some (Some change)) × IsStyleChange sheet istd change)
