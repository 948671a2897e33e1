-- The properties that a file gives to a unit and to a paragraph mark: those of the list that its page has for its place
-- in
-- WordDocument, and then those of the modifier of its piece. Each place represents itself: no page is gone through.
use Rattle.std.specs.Prelude.{◌≡◌, ℕ, List, drop, Option}
use Rattle.std.specs.Option.{unwrap_or}
use Rattle.std.specs.FinMap.{empty}
use Rattle.doc_bits.specs.Number.{u16_at}
use Rattle.sprm_table.specs.Sprm.{Prl, SpellsSprmList}
use Rattle.prop_map.specs.declared.modifiers.Modifier.{Modifier}
use Rattle.prop_map.specs.Settings.{Properties}
use Rattle.prop_map.specs.Formed.{character_groups, paragraph_groups}
use Rattle.prop_map.specs.Acting.{ArePropertiesAfter, style_named}
use Rattle.prop_map.specs.Modifiers.{IsCharacterAfter, IsMarkAfter, mark_style}
use Rattle.fkp_pages.specs.declared.kind.PageKind.TheVariants.{Chpx, Papx}
use Rattle.fkp_pages.specs.Properties.{HasListAt}

-- what a list makes of no properties, at a place that holds these groups, and the style that it names
pub record MakesProperties (list : List ℕ) (groups : ℕ) (made : Properties) (style : Option ℕ) : Type 0 where
  pub prls : List Prl
  pub spelt : SpellsSprmList list prls
  pub map : ArePropertiesAfter prls groups empty made
  pub style_is : style ≡ style_named prls groups

-- [MS-DOC] Chpx, Prm: the direct properties of a character
pub record IsDirectCharacter (wd bin : List ℕ) (fc : ℕ) (modifier : Modifier) (properties : Properties) : Type 0 where
  pub list : List ℕ
  pub has : HasListAt Chpx bin wd fc list
  pub made : Properties
  pub style : Option ℕ
  pub makes : MakesProperties list character_groups made style
  pub modified : IsCharacterAfter modifier made properties

-- [MS-DOC] GrpPrlAndIstd, Prm: the style number, which is before the sprms, and the direct properties of a
-- paragraph mark
pub record IsDirectMark (wd bin : List ℕ) (fc : ℕ) (modifier : Modifier) (istd : ℕ) (properties : Properties) : Type 0
  where
    pub list : List ℕ
    pub has : HasListAt Papx bin wd fc list
    pub made : Properties
    pub style : Option ℕ
    pub makes : MakesProperties (drop 2 list) paragraph_groups made style
    pub style_is : istd ≡ mark_style modifier (unwrap_or style (u16_at list 0))
    pub modified : IsMarkAfter modifier made properties
