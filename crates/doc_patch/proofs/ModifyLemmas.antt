-- What becomes of items whose properties change, or what is beside them.
use Rattle.std.proofs.Common.{◌≡◌, ◌∙◌, refl, sym, ap, subst, ℕ, ◌+◌, ◌<◌, ◌≤◌, List, length, Option, Some, None}
use Rattle.std.specs.Prelude.{option_map}
use Rattle.std.specs.Option.{ForSome}
use Rattle.std.proofs.lemmas.Option.{same_Some}
use Rattle.prop_map.specs.declared.modifiers.Modifier.{Modifier}
use Rattle.prop_map.specs.Settings.{Properties}
use Rattle.prop_map.specs.Formed.{IsPropertyMap, paragraph_groups, section_groups}
use Rattle.prop_map.specs.Modifiers.{IsFormedModifier}
use Rattle.prop_map.specs.Overlay.{overlay, modified_characters}
use Rattle.prop_map.proofs.Public.{overlay_formed}
use Rattle.run_lists.specs.Changed.{IsChanged}
use Rattle.doc_model.specs.declared.item.Item.{Item}
use Rattle.doc_columns.specs.declared.attached.Attached.{Attached}
use Rattle.doc_columns.specs.Attached.{attached_of}
use Rattle.doc_columns.specs.Columns.{item_of}
use Rattle.doc_columns.specs.Changes.{HasOtherChp, HasOtherAttached, KeepsCharacters, KeepsMaps}
use Rattle.doc_patch.specs.Changes.{map_range, changed_at, modified_item, modified_mark, with_section}
use Rattle.doc_patch.specs.Becomes.{BecomesCharacters, BecomesAttached, BecomesSection}
use Rattle.doc_patch.proofs.RangeLemmas.{changed_is, map_range_twice, map_one}

-- the item with its properties, or with its mark, after a modifier
abbrev with_chp : Modifier → Item → Item
with_chp modifier item = record item { chp = modified_characters modifier item.chp }

abbrev with_mark : Modifier → Item → Item
with_mark modifier item = record item { mark = option_map (modified_mark modifier) item.mark }

-- ---- maps stay well formed

pub characters_kept : (modifier : Modifier) → IsFormedModifier modifier → KeepsCharacters (BecomesCharacters modifier)
characters_kept modifier formed before after map becomes = becomes.formed formed map

pub marks_kept : (modifier : Modifier) → IsFormedModifier modifier → KeepsMaps (BecomesAttached modifier)
marks_kept modifier formed before after maps becomes = record {
  pap = becomes.formed formed maps.pap;
  sect = subst (λ (b : Attached). ForSome b.sect (IsPropertyMap section_groups)) (sym becomes.is) maps.sect;
}

over_some : (set : Properties) (sect : Option Properties) → IsPropertyMap section_groups set →
    ForSome sect (IsPropertyMap section_groups)
    → ForSome (option_map (overlay set) sect) (IsPropertyMap section_groups)
over_some set None formed there made is = absurd (cc (is))
over_some set (Some base) formed there made is =
    subst (IsPropertyMap section_groups) (same_Some (overlay set base) made is)
    (overlay_formed section_groups set base formed (there base refl))

pub sections_kept : (set : Properties) → IsPropertyMap section_groups set → KeepsMaps (BecomesSection set)
sections_kept set formed before after maps becomes = record {
  pap =
      subst (λ (b : Attached). ForSome b.mark (λ mark. IsPropertyMap paragraph_groups mark.pap)) (sym becomes) maps.pap;
  sect =
      subst (λ (b : Attached). ForSome b.sect (IsPropertyMap section_groups)) (sym becomes)
      (over_some set before.sect formed maps.sect);
}

-- ---- items

chp_item : (modifier : Modifier) (before after : Item) → HasOtherChp (BecomesCharacters modifier) before after →
    after ≡ with_chp modifier before
chp_item modifier before after other =
    other.rest ∙ ap (λ (chp : Properties). item_of before.unit chp (attached_of before)) other.chp.is

mark_item : (modifier : Modifier) (before after : Item) → HasOtherAttached (BecomesAttached modifier) before after →
    after ≡ with_mark modifier before
mark_item modifier before after other =
    other.rest ∙ ap (λ (attached : Attached). item_of before.unit before.chp attached) other.attached.is

section_item : (set : Properties) (before after : Item) → HasOtherAttached (BecomesSection set) before after →
    after ≡ with_section set before
section_item set before after other =
    other.rest ∙ ap (λ (attached : Attached). item_of before.unit before.chp attached) other.attached

-- ---- texts

-- a text whose properties and then whose marks of a range are modified
pub modified_text : (modifier : Modifier) (from to : ℕ) (text chps made : List Item) → from ≤ to → to ≤ length text →
    IsChanged (HasOtherChp (BecomesCharacters modifier)) from to text chps
    → IsChanged (HasOtherAttached (BecomesAttached modifier)) from to chps made
    → made ≡ map_range (modified_item modifier) text from to
modified_text modifier from to text chps made ordered within first second =
    changed_is (HasOtherAttached (BecomesAttached modifier)) (with_mark modifier) from to chps made second
    (mark_item modifier)
    ∙ ap (λ (t : List Item). map_range (with_mark modifier) t from to)
    (changed_is (HasOtherChp (BecomesCharacters modifier)) (with_chp modifier) from to text chps first
    (chp_item modifier))
    ∙ map_range_twice (with_mark modifier) (with_chp modifier) text from to ordered within

-- a main text in which properties are put over those of a section
pub section_text : (set : Properties) (at : ℕ) (main made : List Item) → at < length main →
    IsChanged (HasOtherAttached (BecomesSection set)) at (at + 1) main made
    → made ≡ changed_at main at (with_section set)
section_text set at main made within changes =
    changed_is (HasOtherAttached (BecomesSection set)) (with_section set) at (at + 1) main made changes (section_item
    set)
    ∙ map_one (with_section set) main at within
