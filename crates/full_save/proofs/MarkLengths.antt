-- How long the parts of bookmarks are: nothing where there are none, and at most 2 ^ 24 bytes.
use Rattle.std.specs.Prelude.{All}
use Rattle.std.specs.List.{flat_map}
use Rattle.std.proofs.Common.{◌≡◌, refl, ℕ, ◌*◌, ◌^◌, ◌≤◌, List, [], ◌∷◌, ◌++◌, length, arith, length-append}
use Rattle.std.proofs.lemmas.List.Elements.{All-head, All-tail, All-weaker}
use Rattle.doc_bits.specs.Number.{number_bytes}
use Rattle.doc_bits.proofs.Public.{length-number_bytes}
use Rattle.cfb_layout.proofs.Public.{length-table}
use Rattle.document_bookmarks.specs.declared.bookmark_order.Bookmark.{Bookmark}
use Rattle.doc_parts.specs.declared.bookmark_print.Start.{Start}
use Rattle.document_bookmarks.specs.Order.{in_order}
use Rattle.document_bookmarks.specs.Bookmarks.{IsFormedBookmark}
use Rattle.doc_parts.specs.Stories.{cut_form}
use Rattle.doc_parts.specs.PrintedBookmarks.{names_front, names_bytes, printed_names, bookmark_ends, start_form}
use Rattle.doc_parts.specs.PrintedBookmarks.{starts_of, printed_starts, printed_ends}
use Rattle.doc_parts.proofs.Public.{length-ends, length-front, length-starts}
use Rattle.doc_model.specs.declared.document.Document.{Document}
use Rattle.plain_doc.specs.RightDocument.{IsValidDocument}
use Rattle.full_save.specs.TableText.{FitParts}
use Rattle.full_save.proofs.EntryLengths.{length-printed}

-- the bookmarks of a sound document fit the parts
pub fit_parts : (document : Document) → IsValidDocument document → FitParts document.bookmarks
fit_parts document right = record {
  few = right.few_bookmarks;
  short = All-weaker (IsFormedBookmark (length document.main)) (λ (b : Bookmark). length b.name ≤ 255)
      (λ b formed. formed.short) document.bookmarks right.bookmarks.each;
}

-- no bookmarks are no bytes
pub no_starts : (end : ℕ) → printed_starts [] end ≡ []
unfolding starts_of
no_starts end = refl

pub no_ends : (end : ℕ) → printed_ends [] end ≡ []
unfolding in_order
no_ends end = refl

names_short : (bookmarks : List Bookmark) → All (λ (b : Bookmark). length b.name ≤ 255) bookmarks →
    length (names_bytes bookmarks) ≤ 512 * length bookmarks
names_short [] short = omega arith
names_short (b ∷ bs) short =
    let first = All-head (λ (b : Bookmark). length b.name ≤ 255) b bs short in
    let rest = names_short bs (All-tail (λ (b : Bookmark). length b.name ≤ 255) b bs short) in
    let count : List ℕ = number_bytes 2 (length b.name) in
    let units : List ℕ = flat_map (number_bytes 2) b.name in
    omega (
      arith,
      first,
      rest,
      length-append (count ++ units) (names_bytes bs),
      length-append count units,
      length-number_bytes 2 (length b.name),
      length-table 2 b.name,
    )

-- SttbfBkmk has at most 8,192,006 bytes
pub short_names : (bookmarks : List Bookmark) → FitParts bookmarks → length (printed_names bookmarks) ≤ 2 ^ 24
short_names [] fit = omega arith
short_names (b ∷ bs) fit =
    let list : List Bookmark = b ∷ bs in
    let front = length-front (length list) in
    let few = fit.few in
    omega (arith, front, few, names_short list fit.short, length-append (names_front (length list)) (names_bytes list))

-- PlcfBkf and PlcfBkl have less
pub short_starts : (bookmarks : List Bookmark) (end : ℕ) → FitParts bookmarks →
    length (printed_starts bookmarks end) ≤ 2 ^ 24
short_starts bookmarks end fit =
    let starts = starts_of bookmarks [] bookmarks in
    let count = length-starts bookmarks [] bookmarks in
    let few = fit.few in
    let each : (start : Start) → length (start_form.bytes_of start) ≤ 4 = λ start.
    let index : List ℕ = number_bytes 2 start.index in
    let flags : List ℕ = number_bytes 2 start.flags in
    omega (arith, length-append index flags, length-number_bytes 2 start.index, length-number_bytes 2 start.flags) in
    omega (arith, count, few, length-printed start_form 4 starts end each (omega arith))

pub short_ends : (bookmarks : List Bookmark) (end : ℕ) → FitParts bookmarks →
    length (printed_ends bookmarks end) ≤ 2 ^ 24
short_ends bookmarks end fit =
    let few = fit.few in
    omega (
      arith,
      few,
      length-ends bookmarks,
      length-printed cut_form 0 (bookmark_ends bookmarks) end (λ cp. omega arith) (omega arith),
    )
