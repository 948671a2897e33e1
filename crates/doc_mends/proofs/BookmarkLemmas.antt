-- Mends keep bookmarks formed: their ends go with the main text, which gets no shorter otherwise.
use Rattle.std.proofs.Common.{◌≡◌, sym, subst, ℕ, zero, suc, ◌+◌, ◌-◌, ◌≤◌, Bool, true, false, not, cond}
use Rattle.std.proofs.Common.{List, [], ◌∷◌, ◌++◌, length, map, take, arith}
use Rattle.std.specs.Prelude.{All, if◌then◌else◌}
use Rattle.std.proofs.lemmas.List.{length-map, length-append, length-take-le}
use Rattle.std.specs.List.{count_by}
use Rattle.std.proofs.lemmas.List.Elements.{All-map, All-weaker}
use Rattle.std.proofs.lemmas.List.Sums.{sum_by-take-le}
use Rattle.doc_bits.specs.declared.places.Story.TheVariants.{Main}
use Rattle.document_bookmarks.specs.declared.bookmark_order.Bookmark.{Bookmark}
use Rattle.document_bookmarks.specs.Bookmarks.{bookmark_cmp, IsFormedBookmark, AreFormedBookmarks}
use Rattle.doc_model.specs.declared.item.Item.{Item}
use Rattle.doc_model.specs.declared.document.Document.{Document}
use Rattle.doc_model.specs.Marks.{HasFormedBookmarks}
use Rattle.document_bookmarks.proofs.Public.{in_order_sorted, all_in_order, bookmark_total}
use Rattle.doc_losses.specs.References.{Names}
use Rattle.doc_mends.specs.Cuts.{end_left, bookmark_left, bookmarks_left, reference_flags, references_cut}
use Rattle.doc_mends.proofs.CutLemmas.{count_true, count_false, length_left}
use Rattle.doc_mends.proofs.UncutLemmas.{length-flags}
use Rattle.doc_mends.specs.Bases.{DropsBases}
use Rattle.doc_mends.specs.NormalMarks.{normal_item, normal_text}
use Rattle.doc_mends.specs.PlainRows.{plain_text}
use Rattle.doc_mends.proofs.TableLemmas.{plain_length}
use Rattle.doc_mends.specs.Ends.{is_ended, ended_text, last_left, last_item, ending_item, with_end, with_ends}
use Rattle.doc_mends.specs.declared.mends.Mend.{Mend}
use Rattle.doc_mends.specs.Mending.{mended_in_place, MendsKeepBookmarks}

one_formed : (len more : ℕ) (bookmark : Bookmark) → len ≤ more → IsFormedBookmark len bookmark →
    IsFormedBookmark more bookmark
one_formed len more bookmark longer formed =
    let within = formed.within in
    record {
      ordered = formed.ordered;
      within = omega (arith, within, longer);
      named = formed.named;
      short = formed.short;
    }

stay_formed : (len more : ℕ) (list : List Bookmark) → len ≤ more → AreFormedBookmarks len list →
    AreFormedBookmarks more list
stay_formed len more list longer formed = record {
  each =
      All-weaker (IsFormedBookmark len) (IsFormedBookmark more) (λ bookmark is. one_formed len more bookmark longer is)
      list formed.each;
  in_order = formed.in_order;
}

ended_longer : (text : List Item) → length text ≤ length (ended_text text)
ended_longer text =
    let front : List Item = take (length text - 1) text in
    let left : List Item = last_left (last_item text) in
    let all : length (front ++ (left ++ ending_item (last_item text) ∷ [])) ≡ length front + length
    (left ++ ending_item (last_item text) ∷ []) = length-append front (left ++ ending_item (last_item text) ∷ []) in
    let back : length (left ++ ending_item (last_item text) ∷ []) ≡ length left + 1 =
    length-append left (ending_item (last_item text) ∷ []) in
    let short : length front ≡ length text - 1 = length-take-le (length text - 1) text (omega arith) in
    omega (arith, all, back, short)

if_longer : (is : Bool) (text : List Item) → length text ≤ length (if◌then◌else◌ {A = List Item} is text (ended_text
    text))
if_longer true text = omega arith
if_longer false text = ended_longer text

longer : (is_head : Bool) (text : List Item) → length text ≤ length (with_end is_head text)
longer is_head text = if_longer (is_ended is_head text) text

-- ---- where ends go when references are cut

end_upto : (flags : List Bool) (p q : ℕ) → p ≤ q → end_left flags p ≤ end_left flags q
end_upto flags zero q low = omega arith
end_upto [] (suc p) q low = omega arith
end_upto (flag ∷ flags) (suc p) zero low = absurd (omega (arith, low))
end_upto (true ∷ flags) (suc p) (suc q) low =
    let rest = end_upto flags p q (omega (arith, low)) in
    omega (arith, rest, count_true (take p flags), count_true (take q flags))
end_upto (false ∷ flags) (suc p) (suc q) low =
    let rest = end_upto flags p q (omega (arith, low)) in
    omega (arith, rest, count_false (take p flags), count_false (take q flags))

end_within : (flags : List Bool) (p : ℕ) → end_left flags p ≤ count_by not flags
end_within flags p = sum_by-take-le (λ (flag : Bool). cond (not flag) 1 0) flags p

one_left : (flags : List Bool) (len : ℕ) (bookmark : Bookmark) → IsFormedBookmark len bookmark →
    IsFormedBookmark (count_by not flags) (bookmark_left flags bookmark)
one_left flags len bookmark formed = record {
  ordered = end_upto flags bookmark.from bookmark.to formed.ordered;
  within = end_within flags bookmark.to;
  named = formed.named;
  short = formed.short;
}

left_formed : (flags : List Bool) (len : ℕ) (list : List Bookmark) → AreFormedBookmarks len list →
    AreFormedBookmarks (count_by not flags) (bookmarks_left flags list)
left_formed flags len list formed =
    let end : ℕ = count_by not flags in
    let move : Bookmark → Bookmark = bookmark_left flags in
    let moved : All (λ b. IsFormedBookmark end (move b)) list =
    All-weaker (IsFormedBookmark len) (λ b. IsFormedBookmark end (move b)) (λ b h. one_left flags len b h) list
    formed.each in
    record {
      each = all_in_order (IsFormedBookmark end) bookmark_cmp (map move list)
          (All-map (IsFormedBookmark end) move list moved);
      in_order = in_order_sorted bookmark_cmp bookmark_total (map move list);
    }

pub cut_formed : (names : Names) (document : Document) → HasFormedBookmarks document →
    HasFormedBookmarks (references_cut names document)
cut_formed names document formed =
    let flags = reference_flags names Main 0 document.main in
    subst (λ (n : ℕ). AreFormedBookmarks n (bookmarks_left flags document.bookmarks))
    (sym (length_left flags document.main (length-flags names Main 0 document.main)))
    (left_formed flags (length document.main) document.bookmarks formed)

-- ---- all mends

-- the main text has as many items
in_place_formed : (document : Document) → HasFormedBookmarks document → HasFormedBookmarks (mended_in_place document)
in_place_formed document formed =
    let normal : List Item = normal_text document.sheet document.main in
    let same : length normal ≡ length document.main = length-map document.main (normal_item document.sheet) in
    let also : length (plain_text normal) ≡ length normal = plain_length normal in
    stay_formed (length document.main) (length (plain_text normal)) document.bookmarks
    (omega (arith, same, also)) formed

ends_formed : (document : Document) → HasFormedBookmarks document → HasFormedBookmarks (with_ends document)
ends_formed document formed =
    stay_formed (length document.main) (length (with_end false document.main)) document.bookmarks
    (longer false document.main) formed

-- bases are dropped of the styles alone
pub placed_formed : (meant based : Document) (bases : List Mend) → HasFormedBookmarks meant →
    DropsBases meant based bases → HasFormedBookmarks (mended_in_place based)
placed_formed meant based bases formed drops =
    in_place_formed based (subst HasFormedBookmarks (sym drops.document) formed)

pub bookmarks_stay : MendsKeepBookmarks
bookmarks_stay names meant mended mends formed is =
    let placed : Document = mended_in_place is.based in
    subst HasFormedBookmarks (sym is.document_is)
    (ends_formed (references_cut names placed)
    (cut_formed names placed (placed_formed meant is.based is.bases formed is.drops)))
