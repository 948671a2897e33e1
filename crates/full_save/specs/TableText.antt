-- The parts of the table stream of a document.
use Rattle.std.specs.Prelude.{◌≤◌, List, [], ◌∷◌, length, slice_index, All}
use Rattle.fib_form.specs.TableParts.{pair_number}
use Rattle.fib_form.specs.declared.table_parts.TablePart.TheVariants.{Stshf, PlcffndRef, PlcffndTxt, PlcfSed}
use Rattle.fib_form.specs.declared.table_parts.TablePart.TheVariants.{PlcfHdd, PlcfBteChpx, PlcfBtePapx, SttbfFfn}
use Rattle.fib_form.specs.declared.table_parts.TablePart.TheVariants.{PlcfFldMom, PlcfFldHdr, PlcfFldFtn, SttbfBkmk}
use Rattle.fib_form.specs.declared.table_parts.TablePart.TheVariants.{PlcfBkf, PlcfBkl, Dop, SttbfAssoc, Clx, PlfLst}
use Rattle.fib_form.specs.declared.table_parts.TablePart.TheVariants.{PlfLfo}
use Rattle.document_bookmarks.specs.declared.bookmark_order.Bookmark.{Bookmark}
use Rattle.doc_parts.specs.Sections.{printed_sections}
use Rattle.doc_parts.specs.Fields.{printed_fields}
use Rattle.doc_parts.specs.Stories.{printed_refs, printed_texts}
use Rattle.doc_parts.specs.PrintedBookmarks.{printed_names, printed_starts, printed_ends}
use Rattle.style_sheet.specs.Written.{written_sheet}
use Rattle.doc_model.specs.declared.document.Document.{Document}
use Rattle.doc_model.specs.Collected.{joined_texts, fields_of, refs_of}
use Rattle.doc_model.specs.Marks.{most_bookmarks}
use Rattle.full_save.specs.declared.table_text.TableText.{TableText}
use Rattle.doc_model.specs.TextLists.{cuts_of}
use Rattle.fib_form.specs.TableEntries.{TableEntry, entry}

-- bookmarks that the three parts can hold
pub record FitParts (bookmarks : List Bookmark) : Type 0 where
  pub few : length bookmarks ≤ most_bookmarks
  pub short : All (λ bookmark. length bookmark.name ≤ 255) bookmarks

-- the parts in the order of their pairs; each table of CPs ends with the count of its story, those of bookmarks with
-- that of the main text, and the levels are right behind their lists
abbrev pub table_entries : Document → TableText → List TableEntry
table_entries document text =
    let main = document.main in
    let notes = joined_texts document.notes in
    let heads = joined_texts document.heads in
    let main_count = slice_index text.counts 0 in
    let note_count = slice_index text.counts 1 in
    let head_count = slice_index text.counts 2 in
    entry (pair_number Stshf) (written_sheet document.sheet)
    ∷ entry (pair_number PlcffndRef) (printed_refs (refs_of main) main_count)
    ∷ entry (pair_number PlcffndTxt) (printed_texts (cuts_of notes document.notes) note_count)
    ∷ entry (pair_number PlcfSed) (printed_sections text.seds main_count)
    ∷ entry (pair_number PlcfHdd) (printed_texts (cuts_of heads document.heads) head_count)
    ∷ entry (pair_number PlcfBteChpx) text.characters
    ∷ entry (pair_number PlcfBtePapx) text.paragraphs
    ∷ entry (pair_number SttbfFfn) document.carried.fonts
    ∷ entry (pair_number PlcfFldMom) (printed_fields (fields_of main) main_count)
    ∷ entry (pair_number PlcfFldHdr) (printed_fields (fields_of heads) head_count)
    ∷ entry (pair_number PlcfFldFtn) (printed_fields (fields_of notes) note_count)
    ∷ entry (pair_number SttbfBkmk) (printed_names document.bookmarks)
    ∷ entry (pair_number PlcfBkf) (printed_starts document.bookmarks main_count)
    ∷ entry (pair_number PlcfBkl) (printed_ends document.bookmarks main_count)
    ∷ entry (pair_number Dop) document.carried.dop
    ∷ entry (pair_number SttbfAssoc) document.carried.assoc
    ∷ entry (pair_number Clx) text.clx
    ∷ record { number = pair_number PlfLst; bytes = document.carried.lst; behind = document.carried.levels }
    ∷ entry (pair_number PlfLfo) document.carried.lfo
    ∷ []
