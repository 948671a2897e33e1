-- Skipped lists do what the lists do, wherever a document has them.
use Rattle.std.specs.Prelude.{◌≡◌, ◌↔◌, ℕ, List, map}
use Rattle.sprm_table.specs.Sprm.{Prl, IsAcceptedList}
use Rattle.prop_map.specs.declared.acting.Acted.{Acted}
use Rattle.prop_map.specs.declared.modifiers.Modifier.{Modifier}
use Rattle.prop_map.specs.Settings.{Properties}
use Rattle.prop_map.specs.Formed.{character_groups, paragraph_groups, section_groups, prc_groups}
use Rattle.prop_map.specs.Acting.{ArePropertiesAfter, style_named, IsActedBy}
use Rattle.prop_map.specs.Modifiers.{IsSpeltModifier}
use Rattle.prl_skips.specs.Skips.{skipped, SkipsRefused, HoldsNoPictures}

abbrev pub PlacesHoldNoPictures : Type 0
PlacesHoldNoPictures =
    HoldsNoPictures character_groups × (HoldsNoPictures paragraph_groups × (HoldsNoPictures section_groups
    × HoldsNoPictures prc_groups))

abbrev pub SkipsAreAccepted : Type 0
SkipsAreAccepted = (old new : List ℕ) → SkipsRefused old new → (groups : ℕ) → IsAcceptedList new groups

abbrev pub SkipsMakeTheSame : Type 0
SkipsMakeTheSame = (prls : List Prl) (groups : ℕ) (before after : Properties) → HoldsNoPictures groups →
    (ArePropertiesAfter (map skipped prls) groups before after ↔ ArePropertiesAfter prls groups before after)

abbrev pub SkipsNameTheSame : Type 0
SkipsNameTheSame = (prls : List Prl) (groups : ℕ) → HoldsNoPictures groups →
    style_named (map skipped prls) groups ≡ style_named prls groups

-- the same of bytes: the properties of a character or a mark, and the style
abbrev pub SkipsActTheSame : Type 0
SkipsActTheSame = (old new : List ℕ) (groups : ℕ) (before : Properties) (acted : Acted) → HoldsNoPictures groups →
    SkipsRefused old new → (IsActedBy new groups before acted ↔ IsActedBy old groups before acted)

-- and of the lists of pieces
abbrev pub SkipsModifyTheSame : Type 0
SkipsModifyTheSame = (old new : List ℕ) (modifier : Modifier) → SkipsRefused old new →
    (IsSpeltModifier new modifier ↔ IsSpeltModifier old modifier)
