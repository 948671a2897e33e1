-- What is read of a document before the units of its text are taken over.
use Rattle.std.specs.Prelude.{◌≡◌, ℕ, ◌<◌, ◌^◌, List, length, All}
use Rattle.prop_map.specs.Settings.{Properties}
use Rattle.cfb_streams.specs.Contents.{Contents}
use Rattle.piece_table.specs.Piece.{TextPiece}
use Rattle.doc_model.specs.Document.{HasPropertyMaps}
use Rattle.file_rules.specs.FormatRules.{judged_units, text_count}
use Rattle.file_rules.specs.PartRules.{PartLists, HasPartLists}
use Rattle.file_rules.specs.FileRules.{FileText, doc_source_of}
use Rattle.doc_columns.specs.Columns.{items_of}
use Rattle.doc_read.specs.Sections.{AreSectionMaps}
use Rattle.doc_read.specs.Items.{TextParts, HoldsItems}
use Rattle.doc_read.specs.Reading.{TextView, ArePlacedItems, HaveValidPages}
use Rattle.doc_read.specs.CarriedParts.{HoldsCarried}
use Rattle.doc_read.specs.Holds.{head_texts}
use Rattle.doc_read.specs.declared.columns.ReadColumns.{ReadColumns}
use Rattle.doc_read.specs.declared.document.StoryCuts.{StoryCuts}
use Rattle.doc_read.specs.declared.document.DocumentParts.{DocumentParts}
use Rattle.doc_read.specs.declared.document.ReadFromText.{ReadFromText}

-- the columns have a value for each unit, and make well-formed items with the units
pub record FitUnits (units : List ℕ) (read : ReadColumns) : Type 0 where
  pub few : length units < 2 ^ 32
  pub chps : length read.chps ≡ length units
  pub attachments : length read.attachments ≡ length units
  pub maps : All HasPropertyMaps (items_of units read.chps read.attachments)

-- the columns of all units of a text, each of which has its pages
pub record AreReadColumns (view : TextView) (pieces : List TextPiece) (read : ReadColumns) : Type 0 where
  pub right : HaveValidPages view 0 (length view.units)
  pub chps : length read.chps ≡ length view.units
  pub attachments : length read.attachments ≡ length view.units
  pub each : ArePlacedItems view pieces (items_of view.units read.chps read.attachments)

-- with the units of the three stories they make the items of the CPs
pub record AreColumnsOf (parts : TextParts) (read : ReadColumns) : Type 0 where
  pub fit : FitUnits (judged_units parts.source) read
  pub holds :
      HoldsItems parts 0 (text_count parts.source) (items_of (judged_units parts.source) read.chps read.attachments)

-- what is read of these streams and this text by these lists
pub record IsReadFromText (contents : Contents) (text : FileText) (lists : PartLists) (read : ReadFromText) :
    Type 0 where
  pub sections : List Properties
  pub has_sections : AreSectionMaps text.wd lists.sections sections
  pub columns_are :
      AreColumnsOf (record { source = doc_source_of text; pieces = text.pieces; lists = lists; sections = sections })
      read.columns
  pub carried_is : HoldsCarried contents (doc_source_of text) lists.levels read.carried

-- the cuts of a file, and the number of header texts that belong to its sections
abbrev pub story_cuts : PartLists → StoryCuts
story_cuts lists = record { notes = lists.notes; heads = lists.heads; head_count = head_texts lists }

-- the parts of the document of these streams, this text and these lists
pub record AreDocumentParts (contents : Contents) (text : FileText) (lists : PartLists) (parts : DocumentParts) :
    Type 0 where
  pub sections : List Properties
  pub has_sections : AreSectionMaps text.wd lists.sections sections
  pub columns_are :
      AreColumnsOf (record { source = doc_source_of text; pieces = text.pieces; lists = lists; sections = sections })
      parts.columns
  pub cuts_are : parts.cuts ≡ story_cuts lists
  pub sheet_is : parts.sheet ≡ lists.sheet
  pub carried_is : HoldsCarried contents (doc_source_of text) lists.levels parts.carried
  pub bookmarks_are : parts.bookmarks ≡ lists.bookmarks

-- the same, of the lists that the text has
pub record IsReadFrom (contents : Contents) (text : FileText) (parts : DocumentParts) : Type 0 where
  pub lists : PartLists
  pub has_lists : HasPartLists (doc_source_of text) lists
  pub are : AreDocumentParts contents text lists parts
