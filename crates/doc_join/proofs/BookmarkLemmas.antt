-- The bookmarks of a joined document: one more, their form, and their names.
use Rattle.std.proofs.Common.{◌≡◌, ◌∙◌, inl, inr, refl, sym, ap, ℕ, ◌+◌, ◌<◌, ◌≤◌, Bool, true, false}
use Rattle.std.proofs.Common.{cond, not, ◌||◌, List, [], ◌∷◌, ◌++◌, length, take, map, get_or, Some, arith}
use Rattle.std.proofs.Common.{append_assoc}
use Rattle.std.specs.Prelude.{All, slice_get, Result, Ok, Err}
use Rattle.std.specs.Result.{is_ok}
use Rattle.std.specs.List.{filter, count_by}
use Rattle.std.specs.List.Sorted.{IsSorted, IsSearchInRange, IsBinarySearchResult}
use Rattle.std.specs.Ordering.{nat_cmp, is_eq}
use Rattle.std.specs.Cmp.Lexicographic.{slice_cmp}
use Rattle.std.proofs.lemmas.Bool.{cases_lt, cases_Bool}
use Rattle.std.proofs.lemmas.List.{map-append, length-map, append-nil}
use Rattle.std.proofs.lemmas.List.Elements.{All-append, All-map, All-weaker, All-filter, filter_more}
use Rattle.std.proofs.lemmas.List.Sums.{count_by-le-length, length-filter, sum_by-cons, sum_by-append}
use Rattle.std.proofs.lemmas.Cmp.{nat_list_cmp_total}
use Rattle.std.proofs.lemmas.List.Folds.{list_any_at, list_any_none}
use Rattle.std.proofs.lemmas.List.Sorted.{searchable_from_sorted}
use Rattle.std.proofs.lemmas.Option.{get_or_from_slice_get}
use Rattle.doc_bits.specs.Rules.{Nowhere}
use Rattle.document_bookmarks.specs.declared.bookmark_order.Bookmark.{Bookmark}
use Rattle.document_bookmarks.specs.Order.{in_order}
use Rattle.document_bookmarks.specs.Bookmarks.{bookmark_cmp, IsFormedBookmark, AreFormedBookmarks}
use Rattle.document_bookmarks.specs.Names.{name_cmp, is_named, AreApart, HasSameName}
use Rattle.document_bookmarks.proofs.Public.{bookmark_total, in_order_sorted, all_in_order, order_counted, named_is}
use Rattle.document_bookmarks.proofs.Public.{one_named, apart_less, apart_nowhere, nowhere_apart}
use Rattle.doc_join.specs.Bookmarks.{bookmark_behind, has_name, bookmarks_from_second, joined_bookmarks}

-- ---- one more of the second document

-- those that the first list has no name of, so far
abbrev second_maps : List Bookmark → List Bookmark → List Bookmark
second_maps first list = filter (λ bookmark. not (has_name first bookmark.name)) list

pub length-second : (len : ℕ) (first second : List Bookmark) →
    length (bookmarks_from_second len first second) ≤ length second
length-second len first second =
    let p : Bookmark → Bool = λ bookmark. not (has_name first bookmark.name) in
    omega (
      arith,
      length-map (filter p second) (bookmark_behind len),
      length-filter p second,
      count_by-le-length p second,
    )

by_test : (len : ℕ) (bookmark : Bookmark) (test old : Bool) → old ≡ test →
    map (bookmark_behind len) (cond (not old) (bookmark ∷ []) []) ≡ cond test [] (bookmark_behind len bookmark ∷ [])
by_test len bookmark true old is =
    ap (λ b. map (bookmark_behind len) (cond (not b) (bookmark ∷ []) [])) is
by_test len bookmark false old is =
    ap (λ b. map (bookmark_behind len) (cond (not b) (bookmark ∷ []) [])) is

second_tested : (len : ℕ) (first second : List Bookmark) (i : ℕ) (bookmark : Bookmark) (test : Bool) →
    has_name first bookmark.name ≡ test → slice_get second i ≡ Some bookmark → i < length second →
    bookmarks_from_second len first (take (i + 1) second)
    ≡ bookmarks_from_second len first (take i second) ++ cond test [] (bookmark_behind len bookmark ∷ [])
second_tested len first second i bookmark test is here within =
    let p : Bookmark → Bool = λ other. not (has_name first other.name) in
    let move : Bookmark → Bookmark = bookmark_behind len in
    let at = get_or_from_slice_get second i bookmark bookmark here in
    ap (map move) (filter_more p second i bookmark within)
    ∙ (map-append move (filter p (take i second))
    (cond (p (get_or second i bookmark)) (get_or second i bookmark ∷ []) [])
    ∙ ap (λ list. map move (filter p (take i second)) ++ list)
    (ap (λ (b : Bookmark). map move (cond (p b) (b ∷ []) [])) at
    ∙ by_test len bookmark test (has_name first bookmark.name) is))

-- a bookmark whose name is new comes behind the others
pub second_more : (len : ℕ) (first second : List Bookmark) (i : ℕ) (bookmark : Bookmark) →
    has_name first bookmark.name ≡ false → slice_get second i ≡ Some bookmark → i < length second →
    (first ++ bookmarks_from_second len first (take i second)) ++ bookmark_behind len bookmark ∷ []
    ≡ first ++ bookmarks_from_second len first (take (i + 1) second)
second_more len first second i bookmark new here within =
    append_assoc first (bookmarks_from_second len first (take i second)) (bookmark_behind len bookmark ∷ [])
    ∙ ap (λ list. first ++ list) (sym (second_tested len first second i bookmark false new here within))

-- one whose name is there does not
pub second_same : (len : ℕ) (first second : List Bookmark) (i : ℕ) (bookmark : Bookmark) →
    has_name first bookmark.name ≡ true → slice_get second i ≡ Some bookmark → i < length second →
    bookmarks_from_second len first (take i second) ≡ bookmarks_from_second len first (take (i + 1) second)
second_same len first second i bookmark old here within =
    sym (second_tested len first second i bookmark true old here within
    ∙ append-nil (bookmarks_from_second len first (take i second)))

-- ---- a name that is looked for

nobody : Bookmark
nobody = record { name = []; from = 0; to = 0; flags = 0 }

-- where names are in order, halving finds one that is there
pub found_named : (list : List Bookmark) (name : List ℕ) (found : Result ℕ ℕ) (answer : Bool) → IsSorted name_cmp list →
    IsSearchInRange found (length list) →
    IsBinarySearchResult (λ (b : Bookmark). slice_cmp nat_cmp b.name name) list found →
    answer ≡ is_ok found → answer ≡ has_name list name
found_named list name (Ok k) answer sorted inside here is =
    is ∙ sym (list_any_at (is_named name) list k nobody inside (ap is_eq (here nobody)))
found_named list name (Err k) answer sorted inside here is =
    let split = here (searchable_from_sorted nat_list_cmp_total (λ (b : Bookmark). b.name) list name sorted) in
    is ∙ sym (list_any_none (is_named name) list (λ i d within. elim (cases_lt i k) [
      | inl early ↦ ap is_eq (split.0 i d (omega arith) early)
      | inr late ↦ ap is_eq (split.1 i d (omega (arith, late)) within)
    ]))

-- ---- their form

first_fits : (before len : ℕ) (bookmark : Bookmark) → IsFormedBookmark before bookmark →
    IsFormedBookmark (before + len) bookmark
first_fits before len bookmark formed = record {
  ordered = formed.ordered;
  within = let low = formed.within in omega (arith, low);
  named = formed.named;
  short = formed.short;
}

second_fits : (before len : ℕ) (bookmark : Bookmark) → IsFormedBookmark len bookmark →
    IsFormedBookmark (before + len) (bookmark_behind before bookmark)
second_fits before len bookmark formed = record {
  ordered = let up = formed.ordered in omega (arith, up);
  within = let low = formed.within in omega (arith, low);
  named = formed.named;
  short = formed.short;
}

pub both_fit : (before len : ℕ) (first second : List Bookmark) → All (IsFormedBookmark before) first →
    All (IsFormedBookmark len) second →
    All (IsFormedBookmark (before + len)) (first ++ bookmarks_from_second before first second)
both_fit before len first second formed next_formed =
    let P : Bookmark → Type 0 = IsFormedBookmark (before + len) in
    All-append P first (bookmarks_from_second before first second)
    (All-weaker (IsFormedBookmark before) P (first_fits before len) first formed)
    (All-map P (bookmark_behind before) (second_maps first second)
    (All-filter (λ bookmark. not (has_name first bookmark.name)) (λ b. P (bookmark_behind before b)) second
    (All-weaker (IsFormedBookmark len) (λ b. P (bookmark_behind before b)) (second_fits before len) second
    next_formed)))

pub joined_form : (before len : ℕ) (first second : List Bookmark) → AreFormedBookmarks before first →
    AreFormedBookmarks len second → AreFormedBookmarks (before + len) (joined_bookmarks before first second)
joined_form before len first second formed next_formed =
    let list = first ++ bookmarks_from_second before first second in
    record {
      each =
          all_in_order (IsFormedBookmark (before + len)) bookmark_cmp list
          (both_fit before len first second formed.each next_formed.each);
      in_order = in_order_sorted bookmark_cmp bookmark_total list;
    }

-- ---- their names

moved_count : (len : ℕ) (name : List ℕ) (list : List Bookmark) →
    count_by (is_named name) (map (bookmark_behind len) list) ≡ count_by (is_named name) list
moved_count len name [] = refl
moved_count len name (bookmark ∷ list) =
    omega (
      arith,
      sum_by-cons (one_named name) (bookmark_behind len bookmark) (map (bookmark_behind len) list),
      sum_by-cons (one_named name) bookmark list,
      moved_count len name list,
    )

-- a name that is counted is there
counted_any : (name : List ℕ) (list : List Bookmark) → 0 < count_by (is_named name) list → has_name list name ≡ true
counted_any name [] some = absurd (omega (arith, some))
counted_any name (bookmark ∷ list) some = elim (cases_Bool (is_named name bookmark)) [
  | inl here ↦ ap (λ b. b || has_name list name) here
  | inr other ↦
      let one : one_named name bookmark ≡ 0 = ap (λ b. cond b 1 0) other in
      let rest : 0 < count_by (is_named name) list =
      omega (arith, some, one, sum_by-cons (one_named name) bookmark list) in
      ap (λ b. b || has_name list name) other ∙ counted_any name list rest
]

one_left : (first : List Bookmark) (name : List ℕ) (bookmark : Bookmark) (list : List Bookmark) (test : Bool) →
    has_name first bookmark.name ≡ test → has_name first name ≡ true →
    count_by (is_named name) list ≡ 0 →
    count_by (is_named name) (cond (not test) (bookmark ∷ list) list) ≡ 0
one_left first name bookmark list true is there none = none
one_left first name bookmark list false is there none = elim (cases_Bool (is_named name bookmark)) [
  | inl here ↦
      absurd (cc (is, there, ap (has_name first) (named_is name bookmark here)))
  | inr other ↦
      let one : one_named name bookmark ≡ 0 = ap (λ b. cond b 1 0) other in
      omega (arith, one, none, sum_by-cons (one_named name) bookmark list)
]

-- those of a name that the first list has are left out
none_left : (first : List Bookmark) (name : List ℕ) (list : List Bookmark) → has_name first name ≡ true →
    count_by (is_named name) (second_maps first list) ≡ 0
none_left first name [] there = refl
none_left first name (bookmark ∷ list) there =
    one_left first name bookmark (second_maps first list) (has_name first bookmark.name) refl there
    (none_left first name list there)

filter_fewer : (p : Bookmark → Bool) (name : List ℕ) (list : List Bookmark) →
    count_by (is_named name) (filter p list) ≤ count_by (is_named name) list
filter_fewer p name [] = omega arith
filter_fewer p name (bookmark ∷ list) =
    elim (p bookmark) as (λ b.
    count_by (is_named name) (cond b (bookmark ∷ filter p list) (filter p list))
    ≤ count_by (is_named name) (bookmark ∷ list)) [
      | true ↦ omega (
        arith,
        sum_by-cons (one_named name) bookmark (filter p list),
        sum_by-cons (one_named name) bookmark list,
        filter_fewer p name list,
      )
      | false ↦ omega (arith, sum_by-cons (one_named name) bookmark list, filter_fewer p name list)
    ]

both_apart : (len : ℕ) (first second : List Bookmark) → AreApart first → AreApart second →
    AreApart (first ++ bookmarks_from_second len first second)
both_apart len first second one other name =
    let both = sum_by-append (one_named name) first (bookmarks_from_second len first second) in
    let moved = moved_count len name (second_maps first second) in
    elim (cases_lt 0 (count_by (is_named name) first)) [
      | inl some ↦
          omega (arith, both, moved, one name, none_left first name second (counted_any name first some))
      | inr none ↦
          omega (
            arith,
            both,
            moved,
            none,
            filter_fewer (λ bookmark. not (has_name first bookmark.name)) name second,
            other name,
          )
    ]

pub joined_apart : (len : ℕ) (first second : List Bookmark) → Nowhere (HasSameName first) →
    Nowhere (HasSameName second) → Nowhere (HasSameName (joined_bookmarks len first second))
joined_apart len first second one other =
    let list = first ++ bookmarks_from_second len first second in
    apart_nowhere (joined_bookmarks len first second)
    (apart_less list (joined_bookmarks len first second)
    (λ f. let same = order_counted bookmark_cmp list f in omega (arith, same))
    (both_apart len first second (nowhere_apart first one) (nowhere_apart second other)))
