-- The properties of the sections, each by the last CP of its section.
use Rattle.std.specs.Prelude.{◌≡◌, ◌≢◌, ◌⊎◌, ℕ, ◌-◌, List, length, map, zip, slice_get, Option, Some, All}
use Rattle.std.specs.FinMap.{empty}
use Rattle.doc_bits.specs.Together.{AreTogether}
use Rattle.prop_map.specs.Settings.{Properties}
use Rattle.prop_map.specs.Formed.{IsPropertyMap}
use Rattle.direct_props.specs.Direct.{MakesProperties}
use Rattle.doc_parts.specs.declared.lists.Sed.{Sed}
use Rattle.file_rules.specs.SectionRules.{sepx_list, section_fc}
use Rattle.prop_map.specs.Formed.{section_groups}
use Rattle.file_rules.specs.FormatRules.{section_ends}

-- [MS-DOC] Sepx: what its list makes of no properties
pub record IsMadeBySepx (wd : List ℕ) (fc : ℕ) (properties : Properties) : Type 0 where
  pub there : fc ≢ 0xFFFFFFFF
  pub style : Option ℕ
  pub makes : MakesProperties (sepx_list wd fc) section_groups properties style

-- [MS-DOC] Sed: a section whose fcSepx is 0xFFFFFFFF has no properties
abbrev pub IsSectionProperties : List ℕ → ℕ → Properties → Type 0
IsSectionProperties wd fc properties = ((fc ≡ 0xFFFFFFFF) × (properties ≡ empty)) ⊎ IsMadeBySepx wd fc properties

-- the properties of each section
pub record HaveProperties (wd : List ℕ) (sections : List Sed) (properties : List Properties) : Type 0 where
  pub len : length properties ≡ length sections
  pub each :
      (k : ℕ) (map : Properties) → slice_get properties k ≡ Some map → IsSectionProperties wd (section_fc sections k)
      map

-- the same, with the line on codes and values of a well-formed document
pub record AreSectionMaps (wd : List ℕ) (sections : List Sed) (properties : List Properties) : Type 0 where
  pub have : HaveProperties wd sections properties
  pub formed : All (IsPropertyMap section_groups) properties

-- these are the properties of a section whose Sepx is at the place
pub record IsMetSection (wd : List ℕ) (place : ℕ × ℕ) (properties : Properties) : Type 0 where
  pub is : IsSectionProperties wd place.0 properties
  pub formed : IsPropertyMap section_groups properties

-- the properties of sections that were met, by the places of their Sepxs
abbrev pub AreMetSections : List ℕ → List (ℕ × ℕ) → List Properties → Type 0
AreMetSections wd places maps = AreTogether (IsMetSection wd) places maps

-- the last CP of each section
abbrev pub section_lasts : List Sed → ℕ → List ℕ
section_lasts sections main_len = map (λ end. end - 1) (section_ends sections main_len)

-- the properties by that CP
abbrev pub section_marks : List Sed → ℕ → List Properties → List (ℕ × Properties)
section_marks sections main_len properties = zip (section_lasts sections main_len) properties
