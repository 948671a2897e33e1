-- What a sound document says place by place: what holds of each text and of its items, the counts, and the styles.
use Rattle.std.specs.Prelude.{◌≡◌, ◌↔◌, ℕ, ◌≤◌, List, length, take, Some, slice_get}
use Rattle.doc_bits.specs.declared.places.Where.{Where}
use Rattle.style_sheet.specs.Sheet.{Sheet}
use Rattle.style_sheet.specs.Chain.{HasSoundBases}
use Rattle.style_sheet.specs.Written.{IsWritable}
use Rattle.doc_model.specs.declared.item.Item.{Item}
use Rattle.doc_model.specs.declared.document.Document.{Document}
use Rattle.plain_doc.specs.Nesting.{AreNestedFields, field_characters, most_open}
use Rattle.plain_doc.specs.Rows.{FitsRow, open_cells}
use Rattle.plain_doc.specs.RulesOfItems.{IsPlacedRight, HasShortProperties}
use Rattle.plain_doc.specs.RulesOfTexts.{text_of_place, EndsRight, HasParagraphStyle}
use Rattle.plain_doc.specs.RulesOfSheet.{HasShortStyle, note_count, head_count, item_count, most_items}
use Rattle.doc_bits.specs.Rules.{Nowhere}
use Rattle.document_bookmarks.specs.Names.{HasSameName}
use Rattle.doc_model.specs.Marks.{HasFormedBookmarks, most_bookmarks}
use Rattle.plain_doc.specs.Sound.{IsSound}

-- each item of the text is such, at its place
abbrev pub HoldsAtItems : List Item → (ℕ → Item → Type 0) → Type 0
HoldsAtItems text such = (i : ℕ) (item : Item) → slice_get text i ≡ Some item → such i item

-- the text ends right, its items are right where they are, its fields nest, and no row is open at its end
pub record IsValidText (sheet : Sheet) (part : Where) (text : List Item) : Type 0 where
  pub ends : EndsRight part text
  pub placed : HoldsAtItems text (IsPlacedRight part (length text))
  pub fields : AreNestedFields most_open (field_characters text)
  pub rows : HoldsAtItems text (λ i item. FitsRow (open_cells (take i text)) item)
  pub row_ends : open_cells text ≡ 0
  pub styles : HoldsAtItems text (λ i item. HasParagraphStyle sheet item)
  pub short : HoldsAtItems text (λ i item. HasShortProperties item)

-- each text is right; there are as many notes and header texts as there should be, and not too many items; the styles
-- have bases that end, and properties that fit the pages of a file and an STD; the bookmarks are formed, and none has
-- the
-- name of an earlier one
pub record IsValidDocument (document : Document) : Type 0 where
  pub texts :
      (part : Where) (text : List Item) → text_of_place document part ≡ Some text → IsValidText document.sheet part text
  pub notes : length document.notes ≡ note_count document.main
  pub heads : length document.heads ≡ head_count document.main
  pub few : item_count document ≤ most_items
  pub bases : HasSoundBases document.sheet
  pub short : (istd : ℕ) → HasShortStyle document.sheet istd
  pub writable : IsWritable document.sheet
  pub bookmarks : HasFormedBookmarks document
  pub few_bookmarks : length document.bookmarks ≤ most_bookmarks
  pub names : Nowhere (HasSameName document.bookmarks)

-- a document breaks no rule exactly where it is right in each place
abbrev pub SoundDocumentsAreValid : Type 0
SoundDocumentsAreValid = (document : Document) → IsSound document ↔ IsValidDocument document
