-- Items of which one part became another.
use Rattle.std.specs.Prelude.{◌≡◌}
use Rattle.std.specs.Option.{ForSome}
use Rattle.prop_map.specs.Settings.{Properties}
use Rattle.prop_map.specs.Formed.{IsPropertyMap, character_groups, paragraph_groups, section_groups}
use Rattle.doc_model.specs.declared.item.Item.{Item}
use Rattle.doc_columns.specs.declared.attached.Attached.{Attached}
use Rattle.doc_columns.specs.Attached.{attached_of}
use Rattle.doc_columns.specs.Columns.{item_of}

-- the properties of the item became others
pub record HasOtherChp (becomes : Properties → Properties → Type 0) (before after : Item) : Type 0 where
  pub chp : becomes before.chp after.chp
  pub rest : after ≡ item_of before.unit after.chp (attached_of before)

-- what is beside its unit became another
pub record HasOtherAttached (becomes : Attached → Attached → Type 0) (before after : Item) : Type 0 where
  pub attached : becomes (attached_of before) (attached_of after)
  pub rest : after ≡ item_of before.unit before.chp (attached_of after)

-- properties of characters become properties of characters
abbrev pub KeepsCharacters : (Properties → Properties → Type 0) → Type 0
KeepsCharacters becomes =
    (before after : Properties) → IsPropertyMap character_groups before → becomes before after →
    IsPropertyMap character_groups after

-- the maps of a mark and of a section have codes of their places' groups
pub record HasAttachedMaps (attached : Attached) : Type 0 where
  pub pap : ForSome attached.mark (λ mark. IsPropertyMap paragraph_groups mark.pap)
  pub sect : ForSome attached.sect (IsPropertyMap section_groups)

-- such maps become such maps
abbrev pub KeepsMaps : (Attached → Attached → Type 0) → Type 0
KeepsMaps becomes = (before after : Attached) → HasAttachedMaps before → becomes before after → HasAttachedMaps after
