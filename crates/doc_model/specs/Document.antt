-- The texts of a document as contracts see them, and which of them are well formed.
use Rattle.std.specs.Prelude.{◌^◌, ◌<◌, List, length, All}
use Rattle.std.specs.Option.{ForSome}
use Rattle.prop_map.specs.Formed.{IsPropertyMap, character_groups, paragraph_groups, section_groups}
use Rattle.doc_model.specs.declared.item.Item.{Item}

-- each map of the item has codes of its place's groups, with values of their sizes
pub record HasPropertyMaps (item : Item) : Type 0 where
  pub chp : IsPropertyMap character_groups item.chp
  pub pap : ForSome item.mark (λ mark. IsPropertyMap paragraph_groups mark.pap)
  pub sect : ForSome item.sect (IsPropertyMap section_groups)

-- a well-formed item: its maps, and the ranges of its unit, its style number and its field byte
pub record IsFormedItem (item : Item) : Type 0 where
  pub maps : HasPropertyMaps item
  pub unit : item.unit < 2 ^ 16
  pub style : ForSome item.mark (λ mark. mark.istd < 2 ^ 16)
  pub field : ForSome item.fld (λ byte. byte < 2 ^ 8)

-- fewer than 2^32 entries, each well formed
pub record IsFormedList {A : Type 0} (IsFormedEntry : A → Type 0) (entries : List A) : Type 0 where
  pub few : length entries < 2 ^ 32
  pub each : All IsFormedEntry entries

-- the items of a text
abbrev pub IsFormedText : List Item → Type 0
IsFormedText = IsFormedList IsFormedItem

-- the notes or the header texts
abbrev pub AreFormedTexts : List (List Item) → Type 0
AreFormedTexts = IsFormedList IsFormedText
