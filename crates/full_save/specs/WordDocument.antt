-- The two streams that a full save makes of a document, as functions of it. No page is filled here and no list is gone
-- through: text, pages and Sepxes are one after the other, and each number is a length.
use Rattle.std.specs.Prelude.{ℕ, ◌+◌, ◌*◌, true, false, List, [], ◌∷◌, ◌++◌, length, map}
use Rattle.std.specs.List.{flat_map}
use Rattle.doc_bits.specs.Number.{number_bytes}
use Rattle.fib_form.specs.declared.form.Form.TheVariants.{Early}
use Rattle.fib_form.specs.FibFields.{FibFields}
use Rattle.fib_form.specs.FibBytes.{written_fib}
use Rattle.fkp_pages.specs.declared.kind.PageKind.{PageKind}
use Rattle.fkp_pages.specs.declared.kind.PageKind.TheVariants.{Chpx, Papx}
use Rattle.fkp_pages.specs.declared.lists.Run.{Run}
use Rattle.fkp_pages.specs.declared.packing.Pages.{Pages}
use Rattle.fkp_pages.specs.Bin.{printed_bin}
use Rattle.fkp_pages.specs.PageBytes.{last_fc}
use Rattle.fkp_pages.specs.Packed.{pages_of}
use Rattle.fkp_pages.specs.InARow.{numbered_bins}
use Rattle.piece_table.specs.Clx.{pcdt_bytes}
use Rattle.piece_table.specs.Printing.{plc_bytes, pcd_bytes}
use Rattle.cfb_layout.specs.Sectors.{units_for, filled, padded_to_unit}
use Rattle.doc_model.specs.declared.item.Item.{Item}
use Rattle.doc_model.specs.declared.document.Document.{Document}
use Rattle.doc_model.specs.Collected.{sections_of}
use Rattle.full_save.specs.declared.table_text.TableText.{TableText}
use Rattle.fib_form.specs.TableEntries.{TableEntry}
use Rattle.full_save.specs.TableText.{table_entries}
use Rattle.full_save.specs.TableStream.{entries_bytes, entries_pairs}
use Rattle.full_save.specs.Text.{text_items, text_counts}
use Rattle.full_save.specs.Runs.{text_runs}
use Rattle.full_save.specs.Sections.{sepxes, seds_from}

-- Profile: the text begins at 1,024, which is a multiple of the size of a page
abbrev pub text_offset : ℕ
text_offset = 1024

-- the bytes of 16-bit units
abbrev pub units_bytes : List ℕ → List ℕ
units_bytes units = flat_map (number_bytes 2) units

-- the bytes of the units of items
abbrev pub items_bytes : List Item → List ℕ
items_bytes items = units_bytes (map (λ item. item.unit) items)

-- the text, and where it ends
abbrev pub text_bytes : Document → List ℕ
text_bytes document = items_bytes (text_items document)

abbrev pub text_end : Document → ℕ
text_end document = text_offset + 2 * length (text_items document)

-- its runs and their pages
abbrev pub document_runs : PageKind → Document → List Run
document_runs kind document = text_runs kind text_offset (text_items document)

abbrev pub document_pages : PageKind → Document → Pages
document_pages kind document = pages_of kind (document_runs kind document)

-- the number of the first page of characters, and of the first page of paragraphs: a page is at 512 times its
-- number
abbrev pub first_character_page : Document → ℕ
first_character_page document = units_for 512 (text_end document)

abbrev pub first_paragraph_page : Document → ℕ
first_paragraph_page document = first_character_page document + length (document_pages Chpx document).starts

-- where the pages end and Sepxes begin
abbrev pub pages_end : Document → ℕ
pages_end document = 512 * (first_paragraph_page document + length (document_pages Papx document).starts)

-- WordDocument from the text on: the text and zeros up to a page, the pages, the Sepxes
unfoldable pub wd_body : Document → List ℕ
wd_body document =
    padded_to_unit 512 0 (text_bytes document)
    ++ ((document_pages Chpx document).bytes ++ ((document_pages Papx document).bytes ++ sepxes (sections_of
    document.main)))

-- [MS-DOC] PlcBteChpx, PlcBtePapx: the pages of runs, the first one with this number
abbrev pub bin_table : PageKind → List Run → ℕ → List ℕ
bin_table kind runs number = printed_bin (numbered_bins number (pages_of kind runs).starts) (last_fc runs)

-- [MS-DOC] Clx: one Pcdt with one piece of so many units, and no modifier
abbrev pub one_piece_clx : ℕ → List ℕ
one_piece_clx len = pcdt_bytes (plc_bytes (len ∷ []) (pcd_bytes (record { at = text_offset; wide = true; len = len }) 0
    ∷
    []))

-- what the table stream has beside the document
abbrev pub full_text : Document → TableText
full_text document = record {
  counts = text_counts document;
  seds = seds_from 0 (pages_end document) (sections_of document.main);
  characters = bin_table Chpx (document_runs Chpx document) (first_character_page document);
  paragraphs = bin_table Papx (document_runs Papx document) (first_paragraph_page document);
  clx = one_piece_clx (length (text_items document));
}

-- the parts of the table stream
abbrev pub full_entries : Document → List TableEntry
full_entries document = table_entries document (full_text document)

-- the table stream
unfoldable pub table_stream : Document → List ℕ
table_stream document = entries_bytes (full_entries document)

-- [MS-DOC] FIB after a full save: the early form, no quick saves, and the table stream is 1Table
unfoldable pub full_fib : Document → FibFields
full_fib document = record {
  form = Early;
  kept = record { lid = document.carried.lid; lid_fe = document.carried.lid_fe; flags = document.carried.flags };
  quick_saves = 0;
  complex = false;
  which_table = 1;
  cb_mac = text_offset + length (wd_body document);
  ccps = text_counts document;
  pairs = entries_pairs (full_entries document);
}

-- Profile: the stream is never shorter
abbrev pub least_length : ℕ
least_length = 4096

-- WordDocument: the FIB and zeros up to the text, then the rest, and zeros where it would be too short
unfoldable pub wd_stream : Document → List ℕ
wd_stream document = filled least_length 0 (filled text_offset 0 (written_fib (full_fib document)) ++ wd_body document)
