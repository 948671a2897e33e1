-- What is at a place of a document, and what is in effect there.
use Rattle.std.specs.Prelude.{◌≡◌, ℕ, List, Some, slice_get}
use Rattle.doc_bits.specs.Places.{Place}
use Rattle.prop_map.specs.Settings.{Properties}
use Rattle.effective_props.specs.declared.effective.ParaEffect.{ParaEffect}
use Rattle.effective_props.specs.Effective.{IsEffectiveCharacter, IsEffectiveParagraph}
use Rattle.doc_model.specs.declared.item.Item.{Item}
use Rattle.doc_model.specs.declared.item.Mark.{Mark}
use Rattle.doc_model.specs.declared.document.Document.{Document}
use Rattle.doc_model.specs.Paragraphs.{IsParagraphEnd}
use Rattle.plain_doc.specs.RulesOfTexts.{text_of_place}
use Rattle.doc_join.specs.declared.renumbering.Renumbering.{Renumbering}
use Rattle.doc_join.specs.Settings.{renumbered_chp}
use Rattle.doc_join.specs.Texts.{renumbered_item, renumbered_mark}

-- the mark is that of the paragraph that holds a place of a text: that of the first item with one from there on
pub record IsMarkFrom (text : List Item) (from : ℕ) (mark : Mark) : Type 0 where
  pub end : ℕ
  pub is_end : IsParagraphEnd text from end
  pub item : Item
  pub there : slice_get text end ≡ Some item
  pub has : item.mark ≡ Some mark

-- an item, the mark of its paragraph, and what is in effect for both
pub record Effects : Type 0 where
  pub item : Item
  pub mark : Mark
  pub characters : Properties
  pub paragraph : ParaEffect

-- they are those of this place
pub record AreEffectsAt (document : Document) (place : Place) (found : Effects) : Type 0 where
  pub text : List Item
  pub there : text_of_place document place.0 ≡ Some text
  pub item : slice_get text place.1 ≡ Some found.item
  pub mark : IsMarkFrom text place.1 found.mark
  pub characters : IsEffectiveCharacter document.sheet found.mark.istd found.item.chp found.characters
  pub paragraph : IsEffectiveParagraph document.sheet found.mark.istd found.mark.pap found.paragraph

-- the same with the styles renumbered: the paragraph's properties and stops name no style
abbrev pub renumbered_effects : Renumbering → Effects → Effects
renumbered_effects numbers found = record {
  item = renumbered_item numbers found.item;
  mark = renumbered_mark numbers found.mark;
  characters = renumbered_chp numbers found.characters;
  paragraph = found.paragraph;
}
