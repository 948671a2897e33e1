-- What can be written of the items of a document, and the runs and pages of its text.
use Rattle.std.specs.Prelude.{slice_get, All, min}
use Rattle.std.specs.FinMap.{empty}
use Rattle.std.proofs.Common.{◌≡◌, ℕ, ◌+◌, ◌*◌, ◌≤◌}
use Rattle.std.proofs.Common.{List, [], ◌∷◌, ◌++◌, length, map, Some, refl}
use Rattle.std.proofs.Common.{subst, arith, length-append}
use Rattle.std.proofs.lemmas.List.{length-map}
use Rattle.std.proofs.lemmas.List.Concat.{length-flat_map}
use Rattle.std.proofs.lemmas.List.Elements.{All-nil, All-cons, All-append}
use Rattle.std.proofs.lemmas.Option.{same_Some}
use Rattle.doc_bits.specs.declared.places.Where.TheVariants.{Main, Note, Head}
use Rattle.doc_bits.proofs.Public.{All_at, All-from_slice_get}
use Rattle.prop_map.specs.Printing.{printed_list}
use Rattle.prop_map.proofs.Public.{IsPropertyMap-empty, entries-empty}
use Rattle.fib_form.specs.FibFields.{AreFibCcps}
use Rattle.fib_form.proofs.Public.{sum-three}
use Rattle.fkp_pages.specs.declared.kind.PageKind.{PageKind}
use Rattle.fkp_pages.specs.Pages.{ArePagesOf, AreWholePages}
use Rattle.fkp_pages.proofs.Public.{runs_have_pages, pages_are_whole}
use Rattle.cfb_layout.proofs.Public.{length-table}
use Rattle.doc_model.specs.declared.item.Mark.{Mark}
use Rattle.doc_model.specs.declared.item.Item.{Item}
use Rattle.doc_model.specs.declared.document.Document.{Document}
use Rattle.doc_model.specs.Collected.{joined_texts}
use Rattle.doc_model.specs.Document.{IsFormedItem, IsFormedText}
use Rattle.doc_model.specs.Formed.{IsFormed}
use Rattle.plain_doc.specs.RulesOfItems.{HasShortProperties}
use Rattle.plain_doc.specs.RightDocument.{IsValidDocument}
use Rattle.plain_doc.proofs.Public.{main_ends}
use Rattle.doc_model.proofs.Public.{joined_all}
use Rattle.full_save.specs.Text.{extra_mark, with_mark, note_story, head_story, text_items, text_counts}
use Rattle.full_save.specs.WordDocument.{text_offset, text_bytes, document_runs, document_pages}
use Rattle.full_save.proofs.StretchRuns.{IsWritableItem, IsWritableMark, AreTextRuns, text_runs_right}

-- ---- what can be written of its items

item_writable : (item : Item) → IsFormedItem item → HasShortProperties item → IsWritableItem item
item_writable item formed short = record {
  unit = formed.unit;
  formed = formed.maps.chp;
  short = short.chp;
  mark = λ mark here. record {
    istd = formed.style mark here;
    formed = formed.maps.pap mark here;
    short = short.pap mark here;
  };
}

text_writable : (text : List Item) → IsFormedText text →
    ((k : ℕ) (item : Item) → slice_get text k ≡ Some item → HasShortProperties item) → All IsWritableItem text
text_writable text formed short =
    All-from_slice_get IsWritableItem text (λ k item here.
    item_writable item (All_at IsFormedItem text k item formed.each here) (short k item here))

texts_writable : (texts : List (List Item)) → All IsFormedText texts →
    ((k : ℕ) (text : List Item) → slice_get texts k ≡ Some text → (i : ℕ) (item : Item) →
    slice_get text i ≡ Some item → HasShortProperties item) →
    All IsWritableItem (joined_texts texts)
texts_writable texts formed short =
    joined_all IsWritableItem texts (λ k text there.
    text_writable text (All_at IsFormedText texts k text formed there) (short k text there))

none_printed : length (printed_list empty) ≡ 0
none_printed = rw entries-empty refl

bare_mark : Mark
bare_mark = record { istd = 0; pap = empty }

bare_writable : IsWritableMark bare_mark
unfolding bare_mark
bare_writable =
    record { istd = omega arith; formed = IsPropertyMap-empty _; short = let e = none_printed in omega (arith, e) }

mark_writable : IsWritableItem extra_mark
unfolding bare_mark
mark_writable = record {
  unit = omega arith;
  formed = IsPropertyMap-empty _;
  short = let e = none_printed in omega (arith, e);
  mark = λ mark here. subst IsWritableMark (same_Some bare_mark mark here) bare_writable;
}

with_mark_writable : (items : List Item) → All IsWritableItem items → All IsWritableItem (with_mark items)
with_mark_writable [] all = all
with_mark_writable (item ∷ items) all =
    All-append IsWritableItem (item ∷ items) (extra_mark ∷ []) all
    (All-cons IsWritableItem extra_mark [] mark_writable (All-nil IsWritableItem))

pub items_writable : (document : Document) → IsFormed document → IsValidDocument document →
    All IsWritableItem (text_items document)
unfolding text_items note_story head_story
items_writable d formed right =
    let main = text_writable d.main formed.main (λ k item here. (right.texts Main d.main refl).short k item here) in
    let notes =
    texts_writable d.notes formed.notes.each
    (λ k text there i item here. (right.texts (Note k) text there).short i item here) in
    let heads =
    texts_writable d.heads formed.heads.each
    (λ k text there i item here. (right.texts (Head k) text there).short i item here) in
    let note_items = with_mark (joined_texts d.notes) in
    let head_items = with_mark (joined_texts d.heads) in
    All-append IsWritableItem d.main (with_mark (note_items ++ head_items)) main
    (with_mark_writable (note_items ++ head_items)
    (All-append IsWritableItem note_items head_items (with_mark_writable (joined_texts d.notes) notes)
    (with_mark_writable (joined_texts d.heads) heads)))

-- ---- how many there are

length-with_mark : (items : List Item) → length (with_mark items) ≡ length items + min 1 (length items)
length-with_mark [] = omega arith
length-with_mark (item ∷ items) = omega (arith, length-append (item ∷ items) (extra_mark ∷ []))

-- the counts of the stories, and of all items
pub record AreFew (document : Document) : Type 0 where
  pub main : 1 ≤ length document.main
  pub stories : length document.main + length (note_story document) + length (head_story document) ≤ 500000
  pub notes : length (joined_texts document.notes) ≤ 500000
  pub heads : length (joined_texts document.heads) ≤ 500000
  pub some : 1 ≤ length (text_items document)
  pub all : length (text_items document) ≤ 500001

pub few_items : (document : Document) → IsValidDocument document → AreFew document
unfolding text_items note_story head_story
few_items d right =
    let some = (main_ends d right).some in
    let most = right.few in
    let notes = length-flat_map (λ (text : List Item). text) d.notes in
    let heads = length-flat_map (λ (text : List Item). text) d.heads in
    let note_items = with_mark (joined_texts d.notes) in
    let head_items = with_mark (joined_texts d.heads) in
    let n = length-with_mark (joined_texts d.notes) in
    let h = length-with_mark (joined_texts d.heads) in
    let both = length-append note_items head_items in
    let last = length-with_mark (note_items ++ head_items) in
    let all = length-append d.main (with_mark (note_items ++ head_items)) in
    record {
      main = omega (arith, some);
      stories = omega (arith, some, most, notes, heads, n, h);
      notes = omega (arith, most, notes);
      heads = omega (arith, most, heads);
      some = omega (arith, all, some);
      all = omega (arith, all, some, most, notes, heads, n, h, both, last);
    }

pub counts_are : (document : Document) → IsValidDocument document → AreFibCcps (text_counts document)
unfolding text_counts
counts_are document right =
    let few = few_items document right in
    let counted = sum-three (text_counts document) refl in
    record { three = refl; main = few.main; all = omega (arith, counted, few.stories) }

-- ---- runs and pages

pub runs_are : (kind : PageKind) (document : Document) → IsFormed document → IsValidDocument document →
    AreTextRuns kind (document_runs kind document)
runs_are kind document formed right =
    let few = few_items document right in
    text_runs_right kind text_offset (text_items document) (items_writable document formed right) (omega (
      arith,
      few.some,
    ))
    (omega (arith, few.all))

pub pages_are : (kind : PageKind) (document : Document) → IsFormed document → IsValidDocument document →
    ArePagesOf kind (document_runs kind document) (document_pages kind document)
pages_are kind document formed right =
    runs_have_pages kind (document_runs kind document) (runs_are kind document formed right).right.writable

-- its pages are whole, and no more than its runs
pub whole_pages : (kind : PageKind) (document : Document) → IsFormed document → IsValidDocument document →
    AreWholePages (document_runs kind document) (document_pages kind document)
whole_pages kind document formed right =
    pages_are_whole kind (document_runs kind document) (document_pages kind document)
    (runs_are kind document formed right).right (pages_are kind document formed right)

pub length-pages : (kind : PageKind) (document : Document) → IsFormed document → IsValidDocument document →
    length (document_pages kind document).bytes ≡ 512 * length (document_pages kind document).starts
length-pages kind document formed right = (whole_pages kind document formed right).size

pub length-text : (document : Document) → length (text_bytes document) ≡ 2 * length (text_items document)
length-text document =
    let units = length-table 2 (map (λ (item : Item). item.unit) (text_items document)) in
    let count = length-map (text_items document) (λ (item : Item). item.unit) in
    omega (arith, units, count)
