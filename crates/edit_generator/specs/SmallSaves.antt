-- How large full saves are of documents that are as small as those of the generator.
use Rattle.std.specs.Prelude.{◌≡◌, ℕ, ◌+◌, ◌≤◌, [], length}
use Rattle.fkp_pages.specs.declared.kind.PageKind.TheVariants.{Chpx, Papx}
use Rattle.doc_model.specs.declared.document.Document.{Document}
use Rattle.doc_model.specs.Collected.{sections_of}
use Rattle.doc_model.specs.Formed.{IsFormed}
use Rattle.plain_doc.specs.Sound.{IsSound}
use Rattle.full_save.specs.Text.{text_items}
use Rattle.full_save.specs.Sections.{sepxes}
use Rattle.full_save.specs.WordDocument.{full_text, table_stream}
use Rattle.full_save.specs.Layout.{full_save_sectors}
use Rattle.edit_generator.specs.FewRuns.{runs_of}

-- Profile: the most sectors and bytes of bin tables of a full save of what is generated, and the most bytes of Table
abbrev pub most_full_sectors : ℕ
most_full_sectors = 2650

abbrev pub most_bin_bytes : ℕ
most_bin_bytes = 19300

abbrev pub most_table_bytes : ℕ
most_table_bytes = 20000

-- a document whose text and tables are as small as those of what is generated
pub record IsSmallDocument (document : Document) : Type 0 where
  pub items : length (text_items document) ≤ 36100
  pub characters : runs_of Chpx document ≤ 1601
  pub paragraphs : runs_of Papx document ≤ 802
  pub sections : length (sepxes (sections_of document.main)) ≤ 503
  pub table :
      length (table_stream document)
      ≤ 600 + (length (full_text document).characters + length (full_text document).paragraphs)
  pub streams : document.carried.streams ≡ []

-- its full save is small
pub record HasSmallSave (document : Document) : Type 0 where
  pub sectors : full_save_sectors document ≤ most_full_sectors
  pub bins : length (full_text document).characters + length (full_text document).paragraphs ≤ most_bin_bytes
  pub table : length (table_stream document) ≤ most_table_bytes

abbrev pub SmallDocumentsHaveSmallSaves : Type 0
SmallDocumentsHaveSmallSaves =
    (document : Document) → IsFormed document → IsSound document → IsSmallDocument document → HasSmallSave document
