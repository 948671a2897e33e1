-- The rules that are checked text by text, as the code names them.
use Rattle.std.specs.Prelude.{◌≡◌, ℕ, List, length, slice_get, Some}
use Rattle.doc_bits.specs.declared.places.Where.{Where}
use Rattle.doc_bits.specs.declared.places.Where.TheVariants.{Note, Head}
use Rattle.doc_bits.specs.Places.{Place}
use Rattle.style_sheet.specs.Sheet.{Sheet}
use Rattle.doc_model.specs.declared.item.Item.{Item}
use Rattle.plain_doc.specs.declared.rules_texts.ItemRule.{ItemRule}
use Rattle.plain_doc.specs.declared.rules_texts.ItemRule.TheVariants.{Placing, Styles, Properties}
use Rattle.plain_doc.specs.declared.rules_texts.TextRule.{TextRule}
use Rattle.plain_doc.specs.declared.rules_texts.TextRule.TheVariants.{End, Each, Fields, Rows}
use Rattle.plain_doc.specs.declared.rules_texts.Side.{Side}
use Rattle.plain_doc.specs.declared.rules_texts.Side.TheVariants.{Notes, Heads}
use Rattle.plain_doc.specs.RulesOfItems.{IsWrongItem, IsPlacedRight, HasShortProperties}
use Rattle.plain_doc.specs.RulesOfTexts.{HasWrongEnd, HasParagraphStyle}
use Rattle.plain_doc.specs.Nesting.{BreaksNesting}
use Rattle.plain_doc.specs.Rows.{BreaksRows}

-- the item is right by this rule, in a text of so many items
abbrev pub IsValidItem : ItemRule → Sheet → Where → ℕ → ℕ → Item → Type 0
IsValidItem Placing sheet part len place item = IsPlacedRight part len place item
IsValidItem Styles sheet part len place item = HasParagraphStyle sheet item
IsValidItem Properties sheet part len place item = HasShortProperties item

-- the text breaks this rule at the place
abbrev pub BreaksText : TextRule → Sheet → Where → List Item → ℕ → Type 0
BreaksText End sheet part text place = HasWrongEnd part text place
BreaksText Fields sheet part text place = BreaksNesting text place
BreaksText Rows sheet part text place = BreaksRows text place
BreaksText (Each rule) sheet part text place = IsWrongItem (IsValidItem rule sheet part (length text)) text place

-- the place of a note or of a header text, by its number
abbrev pub side_text_place : Side → ℕ → Where
side_text_place Notes number = Note number
side_text_place Heads number = Head number

-- the rule is broken in one of these texts
pub record InList (side : Side) (texts : List (List Item)) (breaks : Where → List Item → ℕ → Type 0) (place : Place) :
    Type 0 where
  pub number : ℕ
  pub text : List Item
  pub there : slice_get texts number ≡ Some text
  pub here : place.0 ≡ side_text_place side number
  pub broken : breaks place.0 text place.1
