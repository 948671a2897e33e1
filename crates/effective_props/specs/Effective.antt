-- The effective properties of a character and of a paragraph mark.
use Rattle.std.specs.Prelude.{ℕ, List}
use Rattle.prop_map.specs.Settings.{Properties}
use Rattle.style_sheet.specs.Sheet.{Sheet}
use Rattle.effective_props.specs.declared.effective.ParaEffect.{ParaEffect}
use Rattle.effective_props.specs.Values.{IsEffectiveMap}
use Rattle.effective_props.specs.Stops.{AreStops}
use Rattle.effective_props.specs.Layers.{AreCharacterLayers, AreParagraphLayers}

-- the map is what the layers of the character make
pub record IsEffectiveCharacter (sheet : Sheet) (istd : ℕ) (direct map : Properties) : Type 0 where
  pub layers : List Properties
  pub are : AreCharacterLayers sheet istd direct layers
  pub values : IsEffectiveMap layers map

-- the map and the tab stops are what the layers of the paragraph mark make
pub record IsEffectiveParagraph (sheet : Sheet) (istd : ℕ) (direct : Properties) (effect : ParaEffect) : Type 0 where
  pub layers : List Properties
  pub are : AreParagraphLayers sheet istd direct layers
  pub values : IsEffectiveMap layers effect.map
  pub stops : AreStops layers effect.tabs
