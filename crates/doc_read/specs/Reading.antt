-- What the items of a text are read from, as lists by CP, and what is read at each CP.
use Rattle.std.specs.Prelude.{◌≡◌, ℕ, ◌<◌, ◌≤◌, ◌^◌, Bool, List, length, map, zip, All, is_some, slice_get}
use Rattle.std.specs.Prelude.{slice_index, Option, Some, IsTrue, drop}
use Rattle.prop_map.specs.Settings.{Properties}
use Rattle.prop_map.specs.declared.modifiers.Modifier.{Modifier}
use Rattle.prop_map.specs.Formed.{IsPropertyMap, character_groups, section_groups}
use Rattle.prop_map.specs.Modifiers.{IsFormedModifier}
use Rattle.fkp_pages.specs.declared.kind.PageKind.TheVariants.{Chpx, Papx}
use Rattle.fkp_pages.specs.Bin.{IsBinTable}
use Rattle.direct_props.specs.Direct.{IsDirectCharacter}
use Rattle.direct_props.specs.PageRules.{IsValidPlace}
use Rattle.piece_table.specs.Piece.{TextPiece, UnitPlace, place_of_cp}
use Rattle.doc_model.specs.declared.item.Item.{Item}
use Rattle.doc_model.specs.declared.item.NoteKind.{NoteKind}
use Rattle.doc_model.specs.Document.{HasPropertyMaps}
use Rattle.fib_form.specs.declared.stories.StoryKind.TheVariants.{Main}
use Rattle.file_rules.specs.Source.{DocSource, story_length}
use Rattle.text_codes.specs.Paragraph.{is_paragraph_end}
use Rattle.file_rules.specs.PartRules.{PartLists}
use Rattle.doc_read.specs.declared.marked.TextMarks.{TextMarks}
use Rattle.doc_read.specs.declared.reading.TextSource.{TextSource}
use Rattle.doc_read.specs.declared.reading.PieceReader.{PieceReader}
use Rattle.doc_read.specs.declared.reading.PlcCursors.{PlcCursors}
use Rattle.doc_model.specs.Entries.{entry_at_cp}
use Rattle.doc_read.specs.Sections.{section_lasts}
use Rattle.doc_read.specs.Marked.{field_mark_bytes as bytes_of_fields, note_kind_entries as kinds_of_notes}
use Rattle.doc_read.specs.Items.{IsDirectMarkAt}
use Rattle.doc_read.specs.Passing.{AreCpsPassed, AreListed}

-- the CPs of what is at CPs, and what is there
pub record MarkLists : Type 0 where
  pub field_cps : List ℕ
  pub field_bytes : List ℕ
  pub note_cps : List ℕ
  pub note_kinds : List NoteKind
  pub section_cps : List ℕ

abbrev pub mark_lists : TextMarks → MarkLists
mark_lists marks = record {
  field_cps = marks.field_cps.items;
  field_bytes = marks.field_bytes.items;
  note_cps = marks.note_cps.items;
  note_kinds = marks.note_kinds.items;
  section_cps = marks.section_cps.items;
}

-- those of a document
pub record AreMarkListsOf (source : DocSource) (lists : PartLists) (marks : MarkLists) : Type 0 where
  pub fields : marks.field_cps ≡ map (λ entry. entry.0) (bytes_of_fields source lists)
  pub bytes : marks.field_bytes ≡ map (λ entry. entry.1) (bytes_of_fields source lists)
  pub notes : marks.note_cps ≡ map (λ entry. entry.0) (kinds_of_notes lists.refs)
  pub kinds : marks.note_kinds ≡ map (λ entry. entry.1) (kinds_of_notes lists.refs)
  pub sections : marks.section_cps ≡ section_lasts lists.sections (story_length source Main)

-- WordDocument, its bin tables, the units and their places, what is at CPs, and the properties of the sections
pub record TextView : Type 0 where
  pub wd : List ℕ
  pub characters : List ℕ
  pub paragraphs : List ℕ
  pub units : List ℕ
  pub places : List ℕ
  pub marks : MarkLists
  pub maps : List Properties

abbrev pub text_view : TextSource → TextView
text_view text = record {
  wd = text.wd.now;
  characters = text.characters.now;
  paragraphs = text.paragraphs.now;
  units = text.units.now;
  places = text.places;
  marks = mark_lists text.marks.now;
  maps = text.maps.now;
}

-- what is at a CP
abbrev pub field_at : MarkLists → ℕ → Option ℕ
field_at marks cp = entry_at_cp (zip marks.field_cps marks.field_bytes) cp

abbrev pub note_at : MarkLists → ℕ → Option NoteKind
note_at marks cp = entry_at_cp (zip marks.note_cps marks.note_kinds) cp

abbrev pub section_at : List ℕ → List Properties → ℕ → Option Properties
section_at cps maps cp = entry_at_cp (zip cps maps) cp

-- the unit of a CP ends a paragraph
abbrev pub ends_paragraph_at : TextView → ℕ → Bool
ends_paragraph_at view cp =
    is_paragraph_end (slice_index view.units cp) (is_some (section_at view.marks.section_cps view.maps cp))

-- each unit from one CP to before another that ends a paragraph has its page for a mark
abbrev pub HaveValidMarks : TextView → ℕ → ℕ → Type 0
HaveValidMarks view from to =
    (cp : ℕ) → from ≤ cp → cp < to → IsTrue (ends_paragraph_at view cp) →
    IsValidPlace Papx view.wd view.paragraphs (slice_index view.places cp)

-- each unit from one CP to before another has its page for characters, and for a mark where it ends a paragraph
pub record HaveValidPages (view : TextView) (from to : ℕ) : Type 0 where
  pub characters :
      (cp : ℕ) → from ≤ cp → cp < to → IsValidPlace Chpx view.wd view.characters (slice_index view.places cp)
  pub marks : HaveValidMarks view from to

-- the bin tables are tables, and what is at CPs ascends
pub record IsReadable (view : TextView) : Type 0 where
  pub character_bins : IsBinTable view.characters
  pub paragraph_bins : IsBinTable view.paragraphs
  pub small : length view.wd < 2 ^ 32
  pub few : length view.units ≤ 500000
  pub same : length view.places ≡ length view.units
  pub fields : AreListed view.marks.field_cps view.marks.field_bytes
  pub notes : AreListed view.marks.note_cps view.marks.note_kinds
  pub sections : AreListed view.marks.section_cps view.maps
  pub formed : All (IsPropertyMap section_groups) view.maps

-- a text from a CP on
pub record TextRest : Type 0 where
  pub view : TextView
  pub from : ℕ

-- the text can be read, and the places are those of its units from the CP on
pub record IsTextPart (view : TextView) (from : ℕ) (places : List ℕ) : Type 0 where
  pub readable : IsReadable view
  pub places_are : places ≡ drop from view.places

-- a reader of the characters and the marks of this text, for pieces with one modifier
pub record IsPieceReader (view : TextView) (reader : PieceReader) : Type 0 where
  pub characters :
      reader.characters
      ≡ (record { kind = Chpx; wd = view.wd; bin = view.characters; modifier = reader.characters.modifier })
  pub marks :
      reader.marks
      ≡ (record { kind = Papx; wd = view.wd; bin = view.paragraphs; modifier = reader.characters.modifier })
  pub formed : IsFormedModifier reader.characters.modifier

abbrev pub ArePieceReaders : TextView → List PieceReader → Type 0
ArePieceReaders view readers = All (IsPieceReader view) readers

-- the reader of that number serves for pieces with the modifier
pub record HasReaderFor (readers : List PieceReader) (number : ℕ) (modifier : Modifier) : Type 0 where
  pub reader : PieceReader
  pub here : slice_get readers number ≡ Some reader
  pub serves : reader.characters.modifier ≡ modifier

-- what is passed before a CP
pub record ArePassed (marks : MarkLists) (passed : PlcCursors) (cp : ℕ) : Type 0 where
  pub fields : AreCpsPassed marks.field_cps passed.field cp
  pub notes : AreCpsPassed marks.note_cps passed.note cp
  pub sections : AreCpsPassed marks.section_cps passed.section cp

-- the properties of the characters of a CP, in a piece with the modifier
pub record IsReadCharacter (view : TextView) (modifier : Modifier) (cp : ℕ) (chp : Properties) : Type 0 where
  pub is : IsDirectCharacter view.wd view.characters (slice_index view.places cp) modifier chp
  pub formed : IsPropertyMap character_groups chp

-- the item of a CP, in a piece with the modifier
pub record IsItemReadAt (view : TextView) (modifier : Modifier) (cp : ℕ) (item : Item) : Type 0 where
  pub unit_is : item.unit ≡ slice_index view.units cp
  pub characters : IsDirectCharacter view.wd view.characters (slice_index view.places cp) modifier item.chp
  pub sect_is : item.sect ≡ section_at view.marks.section_cps view.maps cp
  pub mark_is :
      IsDirectMarkAt (is_paragraph_end item.unit (is_some item.sect)) view.wd view.paragraphs (slice_index view.places
      cp)
      modifier item.mark
  pub fld_is : item.fld ≡ field_at view.marks cp
  pub note_is : item.note ≡ note_at view.marks cp
  pub maps : HasPropertyMaps item

-- the same, in the piece that has the CP
pub record IsPlacedItem (view : TextView) (pieces : List TextPiece) (cp : ℕ) (item : Item) : Type 0 where
  pub place : UnitPlace
  pub here : place_of_cp pieces cp ≡ Some place
  pub read : IsItemReadAt view place.modifier cp item

abbrev pub ArePlacedItems : TextView → List TextPiece → List Item → Type 0
ArePlacedItems view pieces items =
    (cp : ℕ) (item : Item) → slice_get items cp ≡ Some item → IsPlacedItem view pieces cp item
