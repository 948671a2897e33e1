-- Rules on the styles of a document, and on the numbers of its parts.
use Rattle.std.specs.Prelude.{◌≡◌, ◌≢◌, ℕ, ◌+◌, ◌*◌, ◌<◌, ◌≤◌, List, length, is_some, ⊤}
use Rattle.std.specs.Option.{ForSome}
use Rattle.std.specs.List.{count_by, sum_by}
use Rattle.doc_bits.specs.declared.places.Where.TheVariants.{Sheet as SheetPart, Main}
use Rattle.doc_bits.specs.Places.{Place}
use Rattle.style_sheet.specs.declared.styles.Kind.{Kind}
use Rattle.style_sheet.specs.declared.styles.Kind.TheVariants.{Para, Char, Other}
use Rattle.style_sheet.specs.Sheet.{Sheet, style_at}
use Rattle.style_sheet.specs.Written.{written_slot}
use Rattle.doc_model.specs.declared.item.Item.{Item}
use Rattle.doc_model.specs.declared.document.Document.{Document}
use Rattle.plain_doc.specs.RulesOfItems.{IsShortChp, IsShortPap}

-- a style of the sheet breaks the rule; its number is the offset
abbrev pub InSheet : (ℕ → Type 0) → Place → Type 0
InSheet breaks place = (place.0 ≡ SheetPart) × breaks place.1

-- the properties of a style are short enough for the pages of a file
abbrev pub HasShortKind : Kind → Type 0
HasShortKind (Para pap chp) = IsShortPap pap × IsShortChp chp
HasShortKind (Char chp) = IsShortChp chp
HasShortKind (Other stk upxes) = ⊤

-- the properties of the style of this number, where there is one
abbrev pub HasShortStyle : Sheet → ℕ → Type 0
HasShortStyle sheet istd = ForSome (style_at sheet istd) (λ style. HasShortKind style.kind)

-- [MS-DOC] LPStd: the count of an STD has 15 bits. The STD of the style of this number, where there is one, is so short
abbrev pub FitsStd : Sheet → ℕ → Type 0
FitsStd sheet istd = length (written_slot istd (style_at sheet istd)) ≤ 32767

-- the number of references to notes
abbrev pub note_count : List Item → ℕ
note_count main = count_by (λ item. is_some item.note) main

-- the number of sections
abbrev pub section_count : List Item → ℕ
section_count main = count_by (λ item. is_some item.sect) main

-- [MS-DOC] PlcfHdd: six texts for the separators of notes, and six headers and footers a section. The number of header
-- texts of so many sections, and of those before the section of this number
abbrev pub heads_of_sections : ℕ → ℕ
heads_of_sections sections = 6 + 6 * sections

abbrev pub head_count : List Item → ℕ
head_count main = heads_of_sections (section_count main)

-- the items of all texts
abbrev pub item_count : Document → ℕ
item_count document = length document.main + (sum_by length document.notes + sum_by length document.heads)

-- Profile: the most items of all texts
abbrev pub most_items : ℕ
most_items = 499998

-- the texts are not as many as this; the place is their number
abbrev pub IsOtherCount : List (List Item) → ℕ → Place → Type 0
IsOtherCount texts count place = (place ≡ (Main, length texts)) × (length texts ≢ count)

-- there are too many items
abbrev pub HasTooManyItems : Document → Place → Type 0
HasTooManyItems document place = (place ≡ (Main, most_items)) × (most_items < item_count document)
