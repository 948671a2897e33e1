-- A document without references stays.
use Rattle.std.proofs.Common.{◌≡◌, ◌∙◌, ap, sym, refl, ℕ, ◌≤◌, Bool, List, [], length, map}
use Rattle.std.proofs.Common.{arith, Option}
use Rattle.std.specs.Prelude.{is_some}
use Rattle.std.specs.Option.{unwrap_or}
use Rattle.std.proofs.lemmas.List.{length-map}
use Rattle.std.proofs.lemmas.List.Sorted.{IsPermutation-refl}
use Rattle.std.proofs.lemmas.Option.{slice_get_within}
use Rattle.doc_bits.specs.declared.places.Story.{Story}
use Rattle.doc_bits.specs.declared.places.Story.TheVariants.{Main, Head}
use Rattle.doc_bits.proofs.Public.{All_at}
use Rattle.document_bookmarks.specs.declared.bookmark_order.Bookmark.{Bookmark}
use Rattle.document_bookmarks.specs.Bookmarks.{bookmark_cmp, IsFormedBookmark, AreFormedBookmarks}
use Rattle.document_bookmarks.specs.Order.{in_order}
use Rattle.doc_parts.specs.Tabulated.{tabulate}
use Rattle.doc_parts.proofs.Public.{tabulate_is, length-tabulate}
use Rattle.document_bookmarks.proofs.Public.{bookmark_total, bookmark_alone, sorted_is_in_order}
use Rattle.doc_model.specs.declared.item.Item.{Item}
use Rattle.doc_model.specs.declared.document.Document.{Document}
use Rattle.doc_model.specs.Marks.{HasFormedBookmarks}
use Rattle.text_losses.specs.declared.features.Reference.{Reference}
use Rattle.doc_losses.specs.References.{Names, marked_story_at, text_marks, text_references, head_begin, head_at}
use Rattle.doc_losses.specs.References.{head_references}
use Rattle.doc_losses.specs.References.{all_head_references, references}
use Rattle.doc_losses.proofs.Public.{none_joined, left_nil, right_nil}
use Rattle.doc_mends.specs.Cuts.{reference_flags, unflagged, cut_text, cut_heads, end_left, bookmark_left, bookmarks_left}
use Rattle.doc_mends.specs.Cuts.{references_cut}
use Rattle.doc_mends.proofs.TextLemmas.{same_map}
use Rattle.doc_mends.proofs.CutLemmas.{IsClear, clear_flags, unflagged-clear, end-clear}

pub length-flags : (names : Names) (story : Story) (begin : ℕ) (text : List Item) →
    length (reference_flags names story begin text) ≡ length text
length-flags names story begin text =
    length-map (text_marks names story begin text) is_some
    ∙ length-tabulate (marked_story_at names story begin text) (length text)

uncut_text : (names : Names) (story : Story) (begin : ℕ) (text : List Item) →
    text_references names story begin text ≡ [] → cut_text names story begin text ≡ text
uncut_text names story begin text none =
    unflagged-clear (reference_flags names story begin text) text
    (clear_flags story (text_marks names story begin text) none)

uncut_heads : (names : Names) (heads : List (List Item)) → all_head_references names heads ≡ [] →
    cut_heads names heads ≡ heads
uncut_heads names heads none =
    tabulate_is (λ (number : ℕ). cut_text names (Head number) (head_begin heads number) (head_at heads number)) heads
    (λ number text is.
    let nothing = none_joined (head_references names heads) (length heads) none number
    (slice_get_within heads number text is) in
    uncut_text names (Head number) (head_begin heads number) (head_at heads number) nothing
    ∙ ap (λ (o : Option (List Item)). unwrap_or o []) is)

same_bookmark : (flags : List Bool) (len : ℕ) (bookmark : Bookmark) → IsClear flags → length flags ≡ len →
    IsFormedBookmark len bookmark → bookmark_left flags bookmark ≡ bookmark
same_bookmark flags len bookmark clear long formed =
    let within : bookmark.to ≤ length flags = let low = formed.within in omega (arith, low, long) in
    let begins : bookmark.from ≤ length flags = let low = formed.ordered in omega (arith, low, within) in
    ap (λ (n : ℕ). record bookmark { from = n; to = end_left flags bookmark.to }) (end-clear flags bookmark.from clear
    begins)
    ∙ ap (λ (n : ℕ). record bookmark { to = n }) (end-clear flags bookmark.to clear within)

same_bookmarks : (flags : List Bool) (len : ℕ) (list : List Bookmark) → IsClear flags → length flags ≡ len →
    AreFormedBookmarks len list → bookmarks_left flags list ≡ list
same_bookmarks flags len list clear long formed =
    let same : map (bookmark_left flags) list ≡ list =
    same_map (bookmark_left flags) list (λ i bookmark is.
    same_bookmark flags len bookmark clear long (All_at (IsFormedBookmark len) list i bookmark formed.each is)) in
    ap (in_order bookmark_cmp) same
    ∙ sym (sorted_is_in_order bookmark_cmp bookmark_total bookmark_alone list list (IsPermutation-refl list)
    formed.in_order)

pub uncut : (names : Names) (document : Document) → HasFormedBookmarks document → references names document ≡ [] →
    references_cut names document ≡ document
uncut names document formed none =
    let main : List Reference = text_references names Main 0 document.main in
    let heads : List Reference = all_head_references names document.heads in
    let flags : List Bool = reference_flags names Main 0 document.main in
    let main_none : main ≡ [] = left_nil main heads none in
    ap (λ (t : List Item). record document {
      main = t;
      heads = cut_heads names document.heads;
      bookmarks = bookmarks_left flags document.bookmarks;
    }) (uncut_text names Main 0 document.main main_none)
    ∙ (ap (λ (t : List (List Item)). record document { heads = t; bookmarks = bookmarks_left flags document.bookmarks })
    (uncut_heads names document.heads (right_nil main heads none))
    ∙ ap (λ (t : List Bookmark). record document { bookmarks = t })
    (same_bookmarks flags (length document.main) document.bookmarks
    (clear_flags Main (text_marks names Main 0 document.main) main_none) (length-flags names Main 0 document.main) formed))
