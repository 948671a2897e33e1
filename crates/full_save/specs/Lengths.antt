-- How long the two streams of a full save are, by counts of its text and of its pages.
use Rattle.std.specs.Prelude.{◌≡◌, ℕ, ◌+◌, ◌*◌, ◌==◌, max, Bool, is_some, Option, Some, None, List, length}
use Rattle.std.specs.Prelude.{if◌then◌else◌, sum_by}
use Rattle.std.specs.Option.{ForSome}
use Rattle.prop_map.specs.Settings.{Properties}
use Rattle.fkp_pages.specs.declared.kind.PageKind.TheVariants.{Chpx, Papx}
use Rattle.cfb_layout.specs.Sectors.{units_for}
use Rattle.style_sheet.specs.Written.{written_sheet}
use Rattle.document_bookmarks.specs.declared.bookmark_order.Bookmark.{Bookmark}
use Rattle.doc_model.specs.declared.item.Item.{Item}
use Rattle.doc_model.specs.declared.document.Document.{Document}
use Rattle.doc_model.specs.Collected.{joined_texts}
use Rattle.doc_columns.specs.declared.attached.Attached.{Attached}
use Rattle.doc_columns.specs.Attached.{attached_of}
use Rattle.full_save.specs.declared.measures.Measure.{Measure}
use Rattle.full_save.specs.declared.measures.Measure.TheVariants.{Notes, Sections, Fields, SepxBytes}
use Rattle.full_save.specs.declared.lengths.PageCounts.{PageCounts}
use Rattle.full_save.specs.Sections.{sepx_bytes, IsSavableSection}
use Rattle.full_save.specs.WordDocument.{document_pages, text_offset, least_length}
use Rattle.full_save.specs.Made.{carried_length}

-- ---- measures of a text

abbrev pub one_if : Bool → ℕ
one_if is = if is then 1 else 0

-- the bytes of a Sepx, where a section ends
abbrev pub sepx_length : Option Properties → ℕ
sepx_length None = 0
sepx_length (Some properties) = length (sepx_bytes properties)

-- what a unit counts, by what is beside it
abbrev pub measured : Measure → Attached → ℕ
measured Notes attached = one_if (is_some attached.note)
measured Sections attached = one_if (is_some attached.sect)
measured Fields attached = one_if (is_some attached.fld)
measured SepxBytes attached = sepx_length attached.sect

-- where Sepxes are measured, a Sepx can hold the section
abbrev pub IsMeasurable : Measure → Attached → Type 0
IsMeasurable measure attached = measure ≡ SepxBytes → ForSome attached.sect IsSavableSection

-- what all units of a text count
abbrev pub text_measure : Measure → List Item → ℕ
text_measure measure text = sum_by (λ item. measured measure (attached_of item)) text

-- ---- parts of the table stream

-- a table of so many CPs and one more, with so many bytes of entries; without entries it is empty
abbrev pub plc_length : ℕ → ℕ → ℕ
plc_length count entries = if count == 0 then 0 else 4 * count + 4 + entries

-- the references, the sections and the field characters of the main text
abbrev pub main_length : List Item → ℕ
main_length main =
    let notes = text_measure Notes main in
    let sections = text_measure Sections main in
    let fields = text_measure Fields main in
    plc_length notes (2 * notes) + plc_length sections (12 * sections) + plc_length fields (2 * fields)

-- the cuts and the field characters of the notes, or of the header texts
abbrev pub texts_length : List (List Item) → ℕ
texts_length texts =
    let cuts = if length (joined_texts texts) == 0 then 0 else length texts + 1 in
    let fields = text_measure Fields (joined_texts texts) in
    plc_length cuts 0 + plc_length fields (2 * fields)

-- the two bin tables
abbrev pub bins_length : PageCounts → ℕ
bins_length pages = 8 * pages.characters + 4 + (8 * pages.paragraphs + 4)

-- a count and the units of a name
abbrev pub bookmark_name_length : Bookmark → ℕ
bookmark_name_length bookmark = 2 + 2 * length bookmark.name

-- the three parts of bookmarks
abbrev pub bookmarks_length : List Bookmark → ℕ
bookmarks_length bookmarks =
    let count = length bookmarks in
    (if count == 0 then 0 else 6 + sum_by bookmark_name_length bookmarks) + plc_length count (4 * count) + plc_length
    count 0

-- a Clx of one piece
abbrev pub clx_length : ℕ
clx_length = 21

-- ---- the two streams

-- the pages of a document
abbrev pub pages_counted : Document → PageCounts
pages_counted document = record {
  characters = length (document_pages Chpx document).starts;
  paragraphs = length (document_pages Papx document).starts;
}

abbrev pub table_length : Document → PageCounts → ℕ
table_length document pages =
    length (written_sheet document.sheet)
    + main_length document.main
    + texts_length document.notes
    + texts_length document.heads
    + bins_length pages
    + bookmarks_length document.bookmarks
    + clx_length
    + carried_length document.carried

-- of WordDocument of a text of so many units, with these pages and a main text
abbrev pub wd_length : ℕ → PageCounts → List Item → ℕ
wd_length units pages main =
    let all = units_for 512 (2 * units) + pages.characters + pages.paragraphs in
    max (text_offset + (512 * all + text_measure SepxBytes main)) least_length
