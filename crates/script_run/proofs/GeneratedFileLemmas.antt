-- How large the files are that the generator saves in full.
use Rattle.std.proofs.Common.{◌≡◌, sym, subst, ℕ, ◌+◌, ◌≤◌, length, arith}
use Rattle.cfb_sectors.specs.Header.{sector_count}
use Rattle.cfb_layout.specs.Layout.{lengths_of}
use Rattle.cfb_layout.proofs.Public.{sectors-needed, length-compound_file}
use Rattle.doc_model.specs.declared.document.Document.{Document}
use Rattle.full_save.specs.WordDocument.{full_fib, full_text, table_stream}
use Rattle.full_save.specs.Layout.{layout_streams, full_save_image, full_save_sectors}
use Rattle.fast_save.specs.Laws.{IsSavable}
use Rattle.fast_save.specs.Session.{bin_length}
use Rattle.fast_save.proofs.Public.{are_streams, is_layout}
use Rattle.edit_generator.specs.SmallSaves.{most_full_sectors, most_bin_bytes, most_table_bytes}
use Rattle.edit_generator.specs.GeneratedDocuments.{IsGeneratedDocument}
use Rattle.edit_generator.proofs.Public.{small_saves, length-bins, document_sound, document_formed, document_small}

-- the full save of the document is small, and so are the counts that a session begins with on it
pub record HasSmallFile (document : Document) : Type 0 where
  pub sectors : full_save_sectors document ≤ most_full_sectors
  pub file : sector_count (full_save_image document) ≤ most_full_sectors
  pub bins : bin_length (full_fib document) ≤ most_bin_bytes
  pub table : length (table_stream document) ≤ most_table_bytes

-- a file has the sectors that are needed
sectors_are : (document : Document) → IsSavable document → sector_count (full_save_image document) ≡ full_save_sectors
    document
unfolding full_save_image
sectors_are document is =
    let streams = layout_streams document in
    let len = length-compound_file streams document.carried.clsid (are_streams document is) (is_layout document is) in
    let needed = sectors-needed (lengths_of streams) in
    omega (arith, len, needed)

pub document_savable : (edits : ℕ) (document : Document) → edits ≤ 4000 → IsGeneratedDocument edits document →
    IsSavable document
document_savable edits document few is =
    let formed = document_formed edits document few is in
    let sound = document_sound edits document few is in
    let save = small_saves document formed sound (document_small edits document few is) in
    let sectors = save.sectors in
    record { formed = formed; sound = sound; fits = omega (arith, sectors) }

abbrev HasBins : Document → Type 0
HasBins document =
    bin_length (full_fib document) ≡ length (full_text document).characters + length (full_text document).paragraphs

pub document_file : (edits : ℕ) (document : Document) → edits ≤ 4000 → IsGeneratedDocument edits document →
    HasSmallFile document
document_file edits document few is =
    let formed = document_formed edits document few is in
    let sound = document_sound edits document few is in
    let save = small_saves document formed sound (document_small edits document few is) in
    let sectors = save.sectors in
    let count = sectors_are document (document_savable edits document few is) in
    let tables = save.bins in
    let bins = subst HasBins (sym is.rest) (length-bins document.main is.text) in
    record {
      sectors = sectors;
      file = omega (arith, count, sectors);
      bins = omega (arith, bins, tables);
      table = save.table;
    }
