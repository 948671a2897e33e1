-- Which properties of a style the code asks for.
use Rattle.std.specs.Prelude.{◌≡◌, ℕ, List, ◌++◌, Option}
use Rattle.prop_map.specs.Settings.{Properties}
use Rattle.style_sheet.specs.declared.styles.Style.{Style}
use Rattle.style_sheet.specs.Sheet.{Sheet}
use Rattle.effective_props.specs.declared.layers.Part.{Part}
use Rattle.effective_props.specs.declared.layers.Part.TheVariants.{Paragraph, Character}
use Rattle.effective_props.specs.Layers.{paragraph_properties, character_properties, AreChainLayers, AreNamedLayers}

abbrev pub properties_in : Part → Option Style → Properties
properties_in Paragraph style = paragraph_properties style
properties_in Character style = character_properties style

-- the layers of a style's chain come after those that were there
pub record AddsChain (part : Part) (sheet : Sheet) (istd : ℕ) (old new : List Properties) : Type 0 where
  pub added : List Properties
  pub layers : AreChainLayers (properties_in part) sheet istd added
  pub joined : new ≡ old ++ added

-- the layers of a named character style come after them
pub record AddsNamed (sheet : Sheet) (named : Option ℕ) (old new : List Properties) : Type 0 where
  pub added : List Properties
  pub layers : AreNamedLayers sheet named added
  pub joined : new ≡ old ++ added
