-- What the properties of a run, and what is beside its units, become by a change.
use Rattle.std.specs.Prelude.{◌≡◌, Option, option_map}
use Rattle.std.specs.Option.{ForSome}
use Rattle.prop_map.specs.declared.modifiers.Modifier.{Modifier}
use Rattle.prop_map.specs.Settings.{Properties}
use Rattle.prop_map.specs.Formed.{IsPropertyMap, StaysFormed, character_groups, paragraph_groups}
use Rattle.prop_map.specs.Modifiers.{IsFormedModifier}
use Rattle.prop_map.specs.Overlay.{overlay, modified_characters}
use Rattle.doc_model.specs.declared.item.Mark.{Mark}
use Rattle.doc_columns.specs.declared.attached.Attached.{Attached}
use Rattle.doc_patch.specs.Changes.{modified_mark}

-- properties of characters, by a modifier
pub record BecomesCharacters (modifier : Modifier) (before after : Properties) : Type 0 where
  pub is : after ≡ modified_characters modifier before
  pub formed : IsFormedModifier modifier → StaysFormed character_groups before after

-- where the one has a well-formed mark, or none, the other has
abbrev pub StaysMark : Option Mark → Option Mark → Type 0
StaysMark before after =
    ForSome before (λ mark. IsPropertyMap paragraph_groups mark.pap) →
    ForSome after (λ mark. IsPropertyMap paragraph_groups mark.pap)

-- what is beside, by a modifier
pub record BecomesAttached (modifier : Modifier) (before after : Attached) : Type 0 where
  pub is : after ≡ record before { mark = option_map (modified_mark modifier) before.mark }
  pub formed : IsFormedModifier modifier → StaysMark before.mark after.mark

-- what is beside, where properties are put over those of a section
abbrev pub BecomesSection : Properties → Attached → Attached → Type 0
BecomesSection set before after = after ≡ record before { sect = option_map (overlay set) before.sect }
