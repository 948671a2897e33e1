-- What is made of a document on the way to its file.
use Rattle.std.specs.Prelude.{◌≡◌, ℕ, ◌+◌, List, [], ◌∷◌, length, slice_index}
use Rattle.style_sheet.specs.Written.{written_sheet}
use Rattle.doc_parts.specs.Sections.{printed_sections}
use Rattle.doc_parts.specs.Fields.{printed_fields}
use Rattle.doc_parts.specs.Stories.{printed_refs, printed_texts}
use Rattle.document_bookmarks.specs.declared.bookmark_order.Bookmark.{Bookmark}
use Rattle.doc_parts.specs.PrintedBookmarks.{printed_names, printed_starts, printed_ends}
use Rattle.fib_form.specs.TableParts.{pair_number}
use Rattle.fib_form.specs.declared.table_parts.TablePart.TheVariants.{Stshf, PlcffndRef, PlcffndTxt, PlcfSed}
use Rattle.fib_form.specs.declared.table_parts.TablePart.TheVariants.{PlcfHdd, PlcfBteChpx, PlcfBtePapx, SttbfFfn}
use Rattle.fib_form.specs.declared.table_parts.TablePart.TheVariants.{PlcfFldMom, PlcfFldHdr, PlcfFldFtn, SttbfBkmk}
use Rattle.fib_form.specs.declared.table_parts.TablePart.TheVariants.{PlcfBkf, PlcfBkl, Dop, SttbfAssoc, Clx, PlfLst}
use Rattle.fib_form.specs.declared.table_parts.TablePart.TheVariants.{PlfLfo}
use Rattle.fib_form.specs.TableEntries.{TableEntry, entry}
use Rattle.doc_model.specs.declared.carried.Carried.{Carried}
use Rattle.doc_model.specs.declared.document.Document.{Document}
use Rattle.doc_model.specs.Collected.{joined_texts, fields_of, refs_of}
use Rattle.doc_model.specs.TextLists.{cuts_of}
use Rattle.full_save.specs.declared.table_text.TableText.{TableText}
use Rattle.full_save.specs.declared.made_parts.FieldParts.{FieldParts}
use Rattle.full_save.specs.declared.made_parts.ListParts.{ListParts}
use Rattle.full_save.specs.declared.made_parts.MadeParts.{MadeParts}
use Rattle.full_save.specs.declared.mark_parts.MarkParts.{MarkParts}
use Rattle.full_save.specs.declared.word_document.WordBody.{WordBody}
use Rattle.full_save.specs.WordDocument.{wd_body, full_text}

-- the three parts of bookmarks, where the main text ends
pub record AreMarkParts (bookmarks : List Bookmark) (end : ℕ) (parts : MarkParts) : Type 0 where
  pub names : parts.names ≡ printed_names bookmarks
  pub starts : parts.starts ≡ printed_starts bookmarks end
  pub ends : parts.ends ≡ printed_ends bookmarks end

-- the three parts of field characters, where the main text, the header texts and the notes end
pub record AreFieldParts (document : Document) (text : TableText) (parts : FieldParts) : Type 0 where
  pub main : parts.main ≡ printed_fields (fields_of document.main) (slice_index text.counts 0)
  pub heads : parts.heads ≡ printed_fields (fields_of (joined_texts document.heads)) (slice_index text.counts 2)
  pub notes : parts.notes ≡ printed_fields (fields_of (joined_texts document.notes)) (slice_index text.counts 1)

-- the parts that say where the notes, the sections and the texts of a document are
pub record AreListParts (document : Document) (text : TableText) (parts : ListParts) : Type 0 where
  pub refs : parts.refs ≡ printed_refs (refs_of document.main) (slice_index text.counts 0)
  pub note_cuts : parts.note_cuts ≡ printed_texts (cuts_of (joined_texts document.notes) document.notes) (slice_index
      text.counts 1)
  pub sections : parts.sections ≡ printed_sections text.seds (slice_index text.counts 0)
  pub head_cuts : parts.head_cuts ≡ printed_texts (cuts_of (joined_texts document.heads) document.heads) (slice_index
      text.counts 2)

-- the parts of the table stream that are made of a document, with what is said of its text
pub record AreMadeOf (document : Document) (text : TableText) (made : MadeParts) : Type 0 where
  pub sheet : made.sheet ≡ written_sheet document.sheet
  pub refs : made.refs ≡ printed_refs (refs_of document.main) (slice_index text.counts 0)
  pub note_cuts : made.note_cuts ≡ printed_texts (cuts_of (joined_texts document.notes) document.notes) (slice_index
      text.counts 1)
  pub sections : made.sections ≡ printed_sections text.seds (slice_index text.counts 0)
  pub head_cuts : made.head_cuts ≡ printed_texts (cuts_of (joined_texts document.heads) document.heads) (slice_index
      text.counts 2)
  pub fields : AreFieldParts document text made.fields
  pub marks : AreMarkParts document.bookmarks (slice_index text.counts 0) made.marks

-- the parts in the order of their pairs
abbrev pub made_entries : Carried → TableText → MadeParts → List TableEntry
made_entries carried text made =
    entry (pair_number Stshf) made.sheet
    ∷ entry (pair_number PlcffndRef) made.refs
    ∷ entry (pair_number PlcffndTxt) made.note_cuts
    ∷ entry (pair_number PlcfSed) made.sections
    ∷ entry (pair_number PlcfHdd) made.head_cuts
    ∷ entry (pair_number PlcfBteChpx) text.characters
    ∷ entry (pair_number PlcfBtePapx) text.paragraphs
    ∷ entry (pair_number SttbfFfn) carried.fonts
    ∷ entry (pair_number PlcfFldMom) made.fields.main
    ∷ entry (pair_number PlcfFldHdr) made.fields.heads
    ∷ entry (pair_number PlcfFldFtn) made.fields.notes
    ∷ entry (pair_number SttbfBkmk) made.marks.names
    ∷ entry (pair_number PlcfBkf) made.marks.starts
    ∷ entry (pair_number PlcfBkl) made.marks.ends
    ∷ entry (pair_number Dop) carried.dop
    ∷ entry (pair_number SttbfAssoc) carried.assoc
    ∷ entry (pair_number Clx) text.clx
    ∷ record { number = pair_number PlfLst; bytes = carried.lst; behind = carried.levels }
    ∷ entry (pair_number PlfLfo) carried.lfo
    ∷ []

-- the number of bytes of these three
abbrev pub marks_length : MarkParts → ℕ
marks_length marks = length marks.names + length marks.starts + length marks.ends

-- the number of bytes of these three
abbrev pub fields_length : FieldParts → ℕ
fields_length fields = length fields.main + length fields.heads + length fields.notes

-- the number of bytes of all
abbrev pub made_length : MadeParts → ℕ
made_length made =
    length made.sheet
    + length made.refs
    + length made.note_cuts
    + length made.sections
    + length made.head_cuts
    + fields_length made.fields
    + marks_length made.marks

-- the number of bytes of the parts that are carried along
abbrev pub carried_length : Carried → ℕ
carried_length carried =
    length carried.fonts
    + length carried.dop
    + length carried.assoc
    + length carried.lst
    + length carried.levels
    + length carried.lfo

-- WordDocument of a document from the text on, and what is said of it
pub record IsBodyOf (document : Document) (body : WordBody) : Type 0 where
  pub bytes : body.bytes ≡ wd_body document
  pub text : body.text ≡ full_text document
