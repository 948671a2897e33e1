-- Rules on each item of a text. A place is the number of the item.
use Rattle.std.specs.Prelude.{◌≡◌, ◌⊎◌, ◌↔◌, ℕ, ◌+◌, ◌≤◌, List, length, slice_get, Some, IsSome}
use Rattle.std.specs.Option.{ForSome}
use Rattle.doc_bits.specs.declared.places.Where.{Where}
use Rattle.doc_bits.specs.declared.places.Where.TheVariants.{Main}
use Rattle.text_codes.specs.Paragraph.{paragraph_mark, cell_mark, section_mark}
use Rattle.prop_map.specs.Settings.{Properties}
use Rattle.prop_map.specs.Printing.{printed_list}
use Rattle.doc_model.specs.declared.item.Item.{Item}

-- the item at the place is there and not right
pub record IsWrongItem (right : ℕ → Item → Type 0) (text : List Item) (place : ℕ) : Type 0 where
  pub item : Item
  pub there : slice_get text place ≡ Some item
  pub wrong : ¬ (right place item)

-- a mark is exactly on 0x0D, on 0x07, and where a section ends
abbrev pub HasMarkRight : Item → Type 0
HasMarkRight item = IsSome item.mark ↔ ((item.unit ≡ paragraph_mark) ⊎ ((item.unit ≡ cell_mark) ⊎ IsSome item.sect))

-- of a text of so many items, a section ends at the last one of the main text and at a 0x0C of it alone, and at the
-- last one of the main text it does
pub record HasSectionRight (part : Where) (len place : ℕ) (item : Item) : Type 0 where
  pub alone : IsSome item.sect → (part ≡ Main) × ((place + 1 ≡ len) ⊎ (item.unit ≡ section_mark))
  pub last : part ≡ Main → place + 1 ≡ len → IsSome item.sect

-- the byte of a field character is on 0x13 to 0x15 alone
abbrev pub HasFieldRight : Item → Type 0
HasFieldRight item = IsSome item.fld → (0x13 ≤ item.unit) × (item.unit ≤ 0x15)

-- notes are referred to in the main text alone
abbrev pub HasNoteRight : Where → Item → Type 0
HasNoteRight part item = IsSome item.note → part ≡ Main

-- what the item has is where it may
pub record IsPlacedRight (part : Where) (len place : ℕ) (item : Item) : Type 0 where
  pub mark : HasMarkRight item
  pub section : HasSectionRight part len place item
  pub field : HasFieldRight item
  pub note : HasNoteRight part item

-- the number of bytes that a map is printed as
abbrev pub printed_length : Properties → ℕ
printed_length map = length (printed_list map)

-- Profile: a Chpx holds 255 bytes, a Papx 480 beside its style number, a Sepx 500
abbrev pub IsShortChp : Properties → Type 0
IsShortChp chp = printed_length chp ≤ 255

abbrev pub IsShortPap : Properties → Type 0
IsShortPap pap = printed_length pap ≤ 480

abbrev pub IsShortSect : Properties → Type 0
IsShortSect sect = printed_length sect ≤ 500

-- the properties of the item are short enough for the pages of a file
pub record HasShortProperties (item : Item) : Type 0 where
  pub chp : IsShortChp item.chp
  pub pap : ForSome item.mark (λ mark. IsShortPap mark.pap)
  pub sect : ForSome item.sect IsShortSect
