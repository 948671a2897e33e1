-- Rules on the texts of a document: the main text, the notes and the header texts.
use Rattle.std.specs.Prelude.{◌≡◌, ◌⊎◌, ℕ, ◌-◌, List, [], length, slice_get, option_map, Option, Some, None}
use Rattle.std.specs.Option.{ForSome}
use Rattle.doc_bits.specs.declared.places.Where.{Where}
use Rattle.doc_bits.specs.declared.places.Where.TheVariants.{File, Wd, Table, Sheet, Main, Note, Head}
use Rattle.doc_bits.specs.Places.{Place}
use Rattle.text_codes.specs.Paragraph.{paragraph_mark}
use Rattle.style_sheet.specs.Chain.{style_kind_at}
use Rattle.style_sheet.specs.Sheet.{Sheet as StyleList}
use Rattle.doc_model.specs.declared.item.Item.{Item}
use Rattle.doc_model.specs.declared.document.Document.{Document}

-- the text that a place speaks of
abbrev pub text_of_place : Document → Where → Option (List Item)
text_of_place document File = None
text_of_place document Wd = None
text_of_place document Table = None
text_of_place document Sheet = None
text_of_place document Main = Some document.main
text_of_place document (Note number) = slice_get document.notes number
text_of_place document (Head number) = slice_get document.heads number

-- the rule is broken in the text of the place, at its offset
pub record InTexts (document : Document) (breaks : Where → List Item → ℕ → Type 0) (place : Place) : Type 0 where
  pub text : List Item
  pub there : text_of_place document place.0 ≡ Some text
  pub broken : breaks place.0 text place.1

-- the unit of the last item
abbrev pub last_unit : List Item → Option ℕ
last_unit text = option_map (λ item. item.unit) (slice_get text (length text - 1))

abbrev pub IsHead : Where → Type 0
IsHead part = (number : ℕ) × (part ≡ Head number)

-- the text ends with the end of a paragraph, or it is an empty header text
abbrev pub EndsRight : Where → List Item → Type 0
EndsRight part text = (last_unit text ≡ Some paragraph_mark) ⊎ (IsHead part × (text ≡ []))

-- it does not; the place is its last item, or 0
abbrev pub HasWrongEnd : Where → List Item → ℕ → Type 0
HasWrongEnd part text place = (place ≡ length text - 1) × ¬ (EndsRight part text)

-- the style of a mark is one of paragraphs
abbrev pub HasParagraphStyle : StyleList → Item → Type 0
HasParagraphStyle sheet item = ForSome item.mark (λ mark. style_kind_at sheet mark.istd ≡ 1)
