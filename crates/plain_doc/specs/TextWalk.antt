-- One walk over a text: what it carries from item to item, and what it asks of each. It says whether a rule is broken.
use Rattle.std.specs.Prelude.{◌≡◌, ◌≢◌, ℕ, ◌+◌, ◌^◌, ◌<◌, ◌≤◌, List, [], ◌∷◌, length, take, Some, None}
use Rattle.doc_bits.specs.declared.places.Where.{Where}
use Rattle.doc_bits.specs.Rules.{Hold, Nowhere}
use Rattle.text_codes.specs.Paragraph.{paragraph_mark, cell_mark}
use Rattle.style_sheet.specs.Sheet.{Sheet}
use Rattle.doc_model.specs.declared.item.Item.{Item}
use Rattle.doc_model.specs.declared.document.Document.{Document}
use Rattle.plain_doc.specs.declared.rules_counts.Counts.{Counts}
use Rattle.plain_doc.specs.declared.rules_texts.ItemRule.{ItemRule}
use Rattle.plain_doc.specs.declared.rules_texts.Side.{Side}
use Rattle.plain_doc.specs.declared.rules_texts.TextRule.{TextRule}
use Rattle.plain_doc.specs.declared.text_walk.TextWalk.{TextWalk}
use Rattle.plain_doc.specs.Nesting.{most_open, field_characters}
use Rattle.plain_doc.specs.OpenFields.{after_item, after_all}
use Rattle.plain_doc.specs.Rows.{FitsRow, open_cells, cells_after}
use Rattle.plain_doc.specs.RulesOfSheet.{note_count, section_count}
use Rattle.plain_doc.specs.RulesOfItems.{IsWrongItem, HasShortProperties}
use Rattle.plain_doc.specs.RulesOfTexts.{InTexts, EndsRight}
use Rattle.plain_doc.specs.Sound.{text_rules}
use Rattle.plain_doc.specs.TextRules.{IsValidItem, BreaksText, InList}

-- an item that ends nothing and has nothing beside its properties
pub record IsPlainItem (item : Item) : Type 0 where
  pub mark : item.mark ≡ None
  pub sect : item.sect ≡ None
  pub fld : item.fld ≡ None
  pub note : item.note ≡ None
  pub paragraph : item.unit ≢ paragraph_mark
  pub cell : item.unit ≢ cell_mark

-- the item breaks no rule where it is, and what the walk carries after it
pub record PassesItem (sheet : Sheet) (part : Where) (len place : ℕ) (item : Item) (before after : TextWalk) :
    Type 0 where
  pub right : (rule : ItemRule) → IsValidItem rule sheet part len place item
  pub row : FitsRow before.cells item
  pub cells : after.cells ≡ cells_after before.cells item
  pub fields : after_item most_open item before.fields ≡ Some after.fields
  pub notes : after.notes ≡ before.notes + note_count (item ∷ [])
  pub sections : after.sections ≡ before.sections + section_count (item ∷ [])

-- the items before this place are passed, and what the walk carries then
pub record HasPassed (sheet : Sheet) (part : Where) (text : List Item) (i : ℕ) (walk : TextWalk) : Type 0 where
  pub right : (rule : ItemRule) (k : ℕ) → k < i → IsWrongItem (IsValidItem rule sheet part (length text)) text k → ⊥
  pub rows : (k : ℕ) → k < i → IsWrongItem (λ at item. FitsRow (open_cells (take at text)) item) text k → ⊥
  pub cells : walk.cells ≡ open_cells (take i text)
  pub fields : after_all most_open (field_characters (take i text)) (Some []) ≡ Some walk.fields
  pub notes : walk.notes ≡ note_count (take i text)
  pub sections : walk.sections ≡ section_count (take i text)
  pub few : (walk.cells ≤ i) × ((walk.notes ≤ i) × (walk.sections ≤ i))

-- the text breaks none of the rules on texts
abbrev pub KeepsTextRules : Sheet → Where → List Item → Type 0
KeepsTextRules sheet part text = (rule : TextRule) → Nowhere (BreaksText rule sheet part text)

-- no text of the document does, and the properties of no item are too long
pub record AreTextsRight (document : Document) : Type 0 where
  pub rules : Hold (text_rules document)
  pub properties : Nowhere (InTexts document (λ part text. IsWrongItem (λ i item. HasShortProperties item) text))

-- how many items of the text refer to notes, and how many end a section
pub record HasTextCounts (text : List Item) (counts : Counts) : Type 0 where
  pub notes : counts.notes ≡ note_count text
  pub sections : counts.sections ≡ section_count text
  pub few : counts.sections < 2 ^ 32

-- where the walk has passed a whole text that ends right, that breaks none of the rules on texts, and has these counts
abbrev pub EndsWalk : TextWalk → Counts → Type 0
EndsWalk walk counts =
    (sheet : Sheet) (part : Where) (text : List Item) → EndsRight part text → length text < 2 ^ 32 →
    HasPassed sheet part text (length text) walk → KeepsTextRules sheet part text × HasTextCounts text counts

-- no text of the list breaks one of the rules on texts
abbrev pub AreValidTexts : Sheet → Side → List (List Item) → Type 0
AreValidTexts sheet side texts = (rule : TextRule) → Nowhere (InList side texts (BreaksText rule sheet))
