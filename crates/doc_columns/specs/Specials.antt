-- The items of a text that have something beside their properties. The rest are bare: a text with right bare items
-- breaks
-- a rule only where the text of the others does.
use Rattle.std.specs.Prelude.{◌≡◌, ◌≢◌, ◌⊎◌, ℕ, ◌||◌, Bool, false, List, [], is_some, map, Some}
use Rattle.std.specs.List.{All, filter}
use Rattle.text_codes.specs.Paragraph.{paragraph_mark, cell_mark}
use Rattle.doc_model.specs.declared.item.Item.{Item}
use Rattle.doc_model.specs.declared.document.Document.{Document}
use Rattle.plain_doc.specs.RulesOfItems.{IsShortChp}
use Rattle.plain_doc.specs.RulesOfTexts.{last_unit}

-- the item has something beside its properties
abbrev pub is_special_item : Item → Bool
is_special_item item = is_some item.mark || (is_some item.sect || (is_some item.fld || is_some item.note))

-- those of a text, in their order
abbrev pub special_items : List Item → List Item
special_items text = filter is_special_item text

-- a bare item does not have the unit of a mark
pub record IsPlainUnit (unit : ℕ) : Type 0 where
  pub paragraph : unit ≢ paragraph_mark
  pub cell : unit ≢ cell_mark

-- the bare items of the text are right, all properties of characters are short, and the last unit is a paragraph mark
pub record HasValidBareItems (text : List Item) : Type 0 where
  pub plain : All (λ item. is_special_item item ≡ false → IsPlainUnit item.unit) text
  pub short : All (λ item. IsShortChp item.chp) text
  pub ends : (text ≡ []) ⊎ (last_unit text ≡ Some paragraph_mark)

-- the second document has the sheet of the first and the special items of its texts, whose bare items are right
pub record AreSpecialsOf (document kept : Document) : Type 0 where
  pub sheet : kept.sheet ≡ document.sheet
  pub main : kept.main ≡ special_items document.main
  pub notes : kept.notes ≡ map special_items document.notes
  pub heads : kept.heads ≡ map special_items document.heads
  pub main_right : HasValidBareItems document.main
  pub notes_right : All HasValidBareItems document.notes
  pub heads_right : All HasValidBareItems document.heads
