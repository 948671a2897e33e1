-- The layers of properties of a character and of a paragraph mark, from the root of the paragraph's style to the direct
-- ones.
use Rattle.std.specs.Prelude.{◌≡◌, ◌≢◌, ℕ, List, [], ◌∷◌, ◌++◌, map, Option, Some, None, option_map}
use Rattle.std.specs.FinMap.{get, empty}
use Rattle.doc_bits.specs.Number.{u16_at}
use Rattle.prop_map.specs.Settings.{Properties}
use Rattle.style_sheet.specs.declared.styles.Style.{Style}
use Rattle.style_sheet.specs.Sheet.{Sheet, style_at}
use Rattle.style_sheet.specs.Chain.{style_kind_at, IsBaseChain}
use Rattle.style_sheet.specs.Changes.{kind_characters, pap_of_style}

-- the paragraph properties of a style, where it is there and has some
abbrev pub paragraph_properties : Option Style → Properties
paragraph_properties None = empty
paragraph_properties (Some style) = pap_of_style style.kind

-- and its character properties
abbrev pub character_properties : Option Style → Properties
character_properties None = empty
character_properties (Some style) = kind_characters style.kind

-- such properties of each of these styles
abbrev pub properties_of_styles : (Option Style → Properties) → Sheet → List ℕ → List Properties
properties_of_styles properties sheet chain = map (λ number. properties (style_at sheet number)) chain

-- the layers are such properties of the styles of a chain of bases, from its root to the style
pub record AreChainLayers (properties : Option Style → Properties) (sheet : Sheet) (istd : ℕ) (layers : List Properties)
    :
    Type 0 where
  pub chain : List ℕ
  pub bases : IsBaseChain sheet istd chain
  pub are : layers ≡ properties_of_styles properties sheet chain

-- [MS-DOC] sprmCIstd names the style of a character
abbrev pub character_style_code : ℕ
character_style_code = 0x4A30

-- the style number that the direct properties of a character name
abbrev pub named_style : Properties → Option ℕ
named_style direct = option_map (λ value. u16_at value 0) (get direct character_style_code)

-- the layers of a named style are those of its chain where it is of kind Char; elsewhere there are none
abbrev pub AreNamedLayers : Sheet → Option ℕ → List Properties → Type 0
AreNamedLayers sheet None layers = layers ≡ []
AreNamedLayers sheet (Some istd) layers =
    (style_kind_at sheet istd ≡ 2 → AreChainLayers character_properties sheet istd layers) × (style_kind_at sheet istd ≢
    2 →
    layers ≡ [])

-- the character properties of the paragraph's style, those of the named character style, and the direct ones
pub record AreCharacterLayers (sheet : Sheet) (istd : ℕ) (direct : Properties) (layers : List Properties) : Type 0 where
  pub of_style : List Properties
  pub style : AreChainLayers character_properties sheet istd of_style
  pub of_named : List Properties
  pub named : AreNamedLayers sheet (named_style direct) of_named
  pub are : layers ≡ of_style ++ (of_named ++ direct ∷ [])

-- the paragraph properties of the paragraph's style, and the direct ones
pub record AreParagraphLayers (sheet : Sheet) (istd : ℕ) (direct : Properties) (layers : List Properties) : Type 0 where
  pub of_style : List Properties
  pub style : AreChainLayers paragraph_properties sheet istd of_style
  pub are : layers ≡ of_style ++ direct ∷ []
