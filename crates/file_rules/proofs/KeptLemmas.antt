-- The bookmarks of a document are formed.
use Rattle.std.proofs.Common.{◌≡◌, inl, inr, refl, sym, subst, ℕ, ◌+◌, ◌*◌, ◌<◌, ◌≤◌, List, []}
use Rattle.std.proofs.Common.{length, arith}
use Rattle.std.specs.Prelude.{All, nat_le, nat_lt, Bool, true, false, if◌then◌else◌}
use Rattle.std.proofs.lemmas.Bool.{cases_lt, le-ltb, lt-ltb, leb-true}
use Rattle.std.proofs.lemmas.List.Elements.{All-filter, All-weaker, filter_passes}
use Rattle.doc_bits.specs.declared.places.Where.TheVariants.{Wd, Table}
use Rattle.doc_bits.specs.Number.{u16_at}
use Rattle.doc_bits.specs.Rules.{Hold, Nowhere}
use Rattle.doc_bits.proofs.Public.{both_true}
use Rattle.fib_form.specs.TableParts.{pair_number}
use Rattle.fib_form.specs.declared.table_parts.TablePart.TheVariants.{SttbfBkmk}
use Rattle.fib_form.specs.declared.stories.StoryKind.TheVariants.{Main}
use Rattle.document_bookmarks.specs.declared.bookmark_order.Bookmark.{Bookmark}
use Rattle.document_bookmarks.specs.Order.{in_order}
use Rattle.doc_parts.specs.Tabulated.{tabulate}
use Rattle.document_bookmarks.specs.Bookmarks.{bookmark_cmp, IsFormedBookmark, AreFormedBookmarks}
use Rattle.doc_parts.specs.BookmarkParts.{BookmarkParts, bookmark_name_place, bookmark_count, bookmark_at}
use Rattle.doc_parts.specs.BookmarkParts.{is_kept_bookmark, HasNames}
use Rattle.doc_parts.specs.BookmarkParts.{kept_bookmarks, bookmarks_of, AreValidParts}
use Rattle.doc_parts.proofs.Public.{right_from_none, all_tabulated_below, length-tabulate}
use Rattle.document_bookmarks.proofs.Public.{bookmark_total, in_order_sorted, all_in_order}
use Rattle.file_rules.specs.Source.{DocSource, table_part_bytes, story_length}
use Rattle.file_rules.specs.BookmarkRules.{bookmark_parts, HasNamePair, HasLeavingPair, rules_of_bookmarks}
use Rattle.file_rules.specs.BookmarkRules.{HasBookmarks}
use Rattle.file_rules.proofs.BookmarkLemmas.{part-short}

-- it has 1 to 255 units
IsNamed : Bookmark → Type 0
IsNamed bookmark = (1 ≤ length bookmark.name) × (length bookmark.name ≤ 255)

named_at : (parts : BookmarkParts) → AreValidParts parts → (k : ℕ) → k < bookmark_count parts.names →
    IsNamed (bookmark_at parts k)
unfolding IsNamed
named_at parts right k low =
    let place = bookmark_name_place parts.names k in
    let whole = right.filled.whole k low in
    let len = length-tabulate (λ i. u16_at parts.names (place + 2 + 2 * i)) (u16_at parts.names place) in
    (omega (arith, whole.some, len), omega (arith, whole.short, len))

-- one that is kept is within the main text
kept_within : (len : ℕ) (bookmark : Bookmark) → is_kept_bookmark len bookmark ≡ true →
    (bookmark.from ≤ bookmark.to) × (bookmark.to ≤ len)
kept_within len bookmark kept =
    let both = both_true (nat_le bookmark.from bookmark.to) (nat_le bookmark.to len) kept in
    (leb-true bookmark.from bookmark.to both.0, leb-true bookmark.to len both.1)

-- one that is kept and named is formed
kept_fits : (len : ℕ) (bookmark : Bookmark) → (is_kept_bookmark len bookmark ≡ true) × IsNamed bookmark →
    IsFormedBookmark len bookmark
unfolding IsNamed
kept_fits len bookmark h =
    let range = kept_within len bookmark h.0 in
    record { ordered = range.0; within = range.1; named = h.1.0; short = h.1.1 }

-- those of parts that break no rule
kept_formed : (parts : BookmarkParts) (len : ℕ) → AreValidParts parts →
    All (IsFormedBookmark len) (kept_bookmarks parts len)
kept_formed parts len right =
    let count : ℕ = bookmark_count parts.names in
    let all : List Bookmark = tabulate (bookmark_at parts) count in
    let named : All IsNamed (kept_bookmarks parts len) =
    All-filter (is_kept_bookmark len) IsNamed all (all_tabulated_below IsNamed (bookmark_at parts) count (named_at parts
    right))
    in
    let kept : All (λ b. is_kept_bookmark len b ≡ true) (kept_bookmarks parts len) = filter_passes (is_kept_bookmark
    len) all in
    let both : All (λ b. (is_kept_bookmark len b ≡ true) × IsNamed b) (kept_bookmarks parts len) =
    λ k d low. (kept k d low, named k d low) in
    All-weaker (λ b. (is_kept_bookmark len b ≡ true) × IsNamed b) (IsFormedBookmark len) (kept_fits len)
    (kept_bookmarks parts len) both

-- in their order
of_right_parts : (parts : BookmarkParts) (len : ℕ) → AreValidParts parts → HasNames parts.names →
    AreFormedBookmarks len (in_order bookmark_cmp (kept_bookmarks parts len))
of_right_parts parts len right some = record {
  each = all_in_order (IsFormedBookmark len) bookmark_cmp (kept_bookmarks parts len) (kept_formed parts len right);
  in_order = in_order_sorted bookmark_cmp bookmark_total (kept_bookmarks parts len);
}

pub none_formed : (len : ℕ) → AreFormedBookmarks len []
none_formed len = record {
  each = λ k d low. absurd (omega (arith, low));
  in_order = λ k d low below. absurd (omega (arith, below));
}

-- where the rule on bookmarks holds, and there are names, the parts are right
right_parts : (source : DocSource) → Hold (rules_of_bookmarks source) → HasNames (table_part_bytes source SttbfBkmk) →
    AreValidParts (bookmark_parts source)
right_parts source holds some =
    let short = part-short source.wd source.table (pair_number SttbfBkmk) in
    let named : HasNamePair source = omega (arith, some, short) in
    let inside : Nowhere (HasLeavingPair source) = λ p w. holds (Wd, p) (named, inl (refl, w)) in
    right_from_none (bookmark_parts source) some (λ p b. holds (Table, p) (named, inr (refl, (inside, b.1))))

-- the bookmarks of a document whose parts break no rule
pub bookmarks-formed : (source : DocSource) (list : List Bookmark) → Hold (rules_of_bookmarks source) →
    HasBookmarks source list → AreFormedBookmarks (story_length source Main) list
bookmarks-formed source list holds has =
    let parts : BookmarkParts = bookmark_parts source in
    let len : ℕ = story_length source Main in
    let some = in_order bookmark_cmp (kept_bookmarks parts len) in
    let formed : AreFormedBookmarks len (bookmarks_of parts len) = elim (cases_lt 6 (length parts.names)) [
      | inl there ↦
          let test : nat_lt 6 (length parts.names) ≡ true = lt-ltb 6 (length parts.names) there in
          subst (λ (b : Bool). AreFormedBookmarks len (if b then some else [])) (sym test)
          (of_right_parts parts len (right_parts source holds there) there)
      | inr few ↦
          let test : nat_lt 6 (length parts.names) ≡ false = le-ltb 6 (length parts.names) few in
          subst (λ (b : Bool). AreFormedBookmarks len (if b then some else [])) (sym test) (none_formed len)
    ] in
    subst (AreFormedBookmarks len) (sym has) formed
