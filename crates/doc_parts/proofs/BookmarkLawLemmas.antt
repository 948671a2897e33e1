-- Printed bookmarks break no rule, and they alone are read back.
use Rattle.std.proofs.Common.{◌≡◌, ◌∙◌, inl, inr, refl, sym, ap, subst, ℕ, ◌+◌, ◌^◌, ◌<◌, ◌≤◌, true, List, [], ◌∷◌}
use Rattle.std.proofs.Common.{◌++◌, length, map, take, get_or, Some, arith, length-append}
use Rattle.std.specs.Prelude.{All, ◌&&◌, nat_le, nat_lt, slice_get, slice_index, Bool}
use Rattle.std.specs.List.{filter, flat_map}
use Rattle.std.proofs.lemmas.Bool.Decides.{nat_tests}
use Rattle.std.proofs.lemmas.List.{length-map, get_or-map, map-id}
use Rattle.std.proofs.lemmas.List.Elements.{All-head, All-tail, All-map, All-weaker}
use Rattle.std.proofs.lemmas.Option.{slice_get-map, same_Some, get_or_from_slice_get}
use Rattle.std.specs.Option.{option_map}
use Rattle.doc_bits.specs.Number.{u16_at, number_bytes}
use Rattle.doc_bits.specs.Plc.{IsPlcOf, plc_cp, plc_entry, HasPlc}
use Rattle.doc_bits.specs.Rules.{Nowhere}
use Rattle.doc_bits.proofs.Public.{there_is, All_at, printed-HasPlc, length-number_bytes}
use Rattle.document_bookmarks.specs.declared.bookmark_order.Bookmark.{Bookmark}
use Rattle.doc_parts.specs.declared.bookmark_print.Start.{Start}
use Rattle.document_bookmarks.specs.Order.{in_order}
use Rattle.doc_parts.specs.Stories.{cut_form}
use Rattle.doc_parts.specs.Tabulated.{tabulate}
use Rattle.document_bookmarks.specs.Bookmarks.{bookmark_cmp, HasFileNumbers, IsFormedBookmark, AreFormedBookmarks}
use Rattle.doc_parts.specs.BookmarkParts.{BookmarkParts, bookmark_count, start_entry, end_index, bookmark_at}
use Rattle.doc_parts.specs.BookmarkParts.{is_kept_bookmark}
use Rattle.doc_parts.specs.BookmarkParts.{kept_bookmarks, bookmarks_of, bookmark_name_at, BreaksStarts}
use Rattle.doc_parts.specs.BookmarkParts.{BreaksParts}
use Rattle.doc_parts.specs.PrintedBookmarks.{names_front, names_bytes, bookmark_ends, end_place, start_form}
use Rattle.doc_parts.specs.PrintedBookmarks.{bookmark_start}
use Rattle.doc_parts.specs.PrintedBookmarks.{starts_of}
use Rattle.doc_parts.specs.PrintedBookmarks.{printed_starts, printed_ends, BookmarksAreReadBack}
use Rattle.document_bookmarks.proofs.Public.{sorted_stays, all_in_order, bookmark_total, bookmark_alone, there_at}
use Rattle.doc_parts.proofs.NumberingLemmas.{end_there, end_within, length-ends}
use Rattle.doc_parts.proofs.BookmarkPartLemmas.{right_names, right_starts}
use Rattle.doc_parts.proofs.BookmarkBackLemmas.{IsShort, IsNamed, StartParts, length-front, front_count, name_there}
use Rattle.doc_parts.proofs.BookmarkBackLemmas.{names_filled, start_there, length-starts, starts_cps, length-entry}
use Rattle.doc_parts.proofs.BookmarkBackLemmas.{entry_numbers, tabulate_is}
use Rattle.std.specs.Ordering.{nat_cmp}

-- ---- the starts

starts_plc : (list : List Bookmark) (end : ℕ) → 0 < length list → end < 2 ^ 32 → All HasFileNumbers list →
    let starts = starts_of list [] list in
    HasPlc (printed_starts list end) 4 (map start_form.cp_of starts) end (map start_form.bytes_of starts)
starts_plc list end some last numbers =
    let starts : List Start = starts_of list [] list in
    let cps : List ℕ = map start_form.cp_of starts in
    let from : Bookmark → ℕ = λ b. b.from in
    let small : All (λ cp. cp < 2 ^ 32) (map from list) =
    All-map (λ cp. cp < 2 ^ 32) from list
    (All-weaker HasFileNumbers (λ b. b.from < 2 ^ 32) (λ b h. h.from) list numbers) in
    printed-HasPlc 4 cps end (map start_form.bytes_of starts)
    (omega (arith, length-map starts start_form.cp_of, length-starts list [] list))
    (omega (arith, length-map starts start_form.cp_of, length-map starts start_form.bytes_of))
    (subst (All (λ cp. cp < 2 ^ 32)) (sym (starts_cps list [] list)) small)
    last
    (All-map (λ part. length part ≡ 4) start_form.bytes_of starts (λ k d low. length-entry (get_or starts k d)))

-- the number of the starts
starts_many : (list : List Bookmark) → length (map start_form.cp_of (starts_of list [] list)) ≡ length list
starts_many list = length-map (starts_of list [] list) start_form.cp_of ∙ length-starts list [] list

-- what is printed of a start
pub record IsStart (bytes : List ℕ) (list : List Bookmark) (k : ℕ) (x : Bookmark) : Type 0 where
  pub from : plc_cp bytes k ≡ x.from
  pub index : end_index bytes (length list) k ≡ end_place list (take k list) x.to
  pub flags : u16_at bytes (start_entry (length list) k + 2) ≡ x.flags

start_back : (list : List Bookmark) (end k : ℕ) (x : Bookmark) → 0 < length list → length list < 2 ^ 16 →
    end < 2 ^ 32 → All HasFileNumbers list → slice_get list k ≡ Some x → k < length list →
    IsStart (printed_starts list end) list k x
start_back list end k x some few last numbers here below =
    let starts : List Start = starts_of list [] list in
    let cps : List ℕ = map start_form.cp_of starts in
    let bytes : List ℕ = printed_starts list end in
    let has = starts_plc list end some last numbers in
    let many : length cps ≡ length list = starts_many list in
    let own = All_at HasFileNumbers list k x numbers here in
    let start : Start = bookmark_start list (take k list) x in
    let from : Bookmark → ℕ = λ b. b.from in
    let first : plc_cp bytes k ≡ x.from =
    has.cps k (omega (arith, many, below))
    ∙ (ap (λ (ns : List ℕ). slice_index ns k) (starts_cps list [] list)
    ∙ (get_or-map from list k x 0 below ∙ ap from (get_or_from_slice_get list k x x here))) in
    let there : slice_get (map start_form.bytes_of starts) k ≡ Some (start_form.bytes_of start) =
    slice_get-map start_form.bytes_of starts k
    ∙ ap (option_map start_form.bytes_of) (start_there list [] list k x here) in
    let entry : plc_entry (StartParts bytes (length list)) k ≡ start_form.bytes_of start =
    same_Some (plc_entry (StartParts bytes (length list)) k) (start_form.bytes_of start)
    (ap (λ (n : ℕ). Some (plc_entry (StartParts bytes n) k)) (sym many)
    ∙ (sym (has.entries k (omega (arith, many, below))) ∙ there)) in
    let small : start.index < 2 ^ 16 = omega (arith, end_within list k x here) in
    let numbers = entry_numbers bytes (length list) k start.index start.flags small own.flags entry in
    record { from = first; index = numbers.0; flags = numbers.1 }

-- ---- the ends

ends_plc : (list : List Bookmark) (end : ℕ) → 0 < length list → end < 2 ^ 32 → All HasFileNumbers list →
    HasPlc (printed_ends list end) 0 (map cut_form.cp_of (bookmark_ends list)) end (map cut_form.bytes_of (bookmark_ends
    list))
ends_plc list end some last numbers =
    let ends : List ℕ = bookmark_ends list in
    let to : Bookmark → ℕ = λ b. b.to in
    let small : All (λ cp. cp < 2 ^ 32) ends =
    all_in_order (λ cp. cp < 2 ^ 32) nat_cmp (map to list) (All-map (λ cp. cp < 2 ^ 32) to list
    (All-weaker HasFileNumbers (λ b. b.to < 2 ^ 32) (λ b h. h.to) list numbers)) in
    printed-HasPlc 0 (map cut_form.cp_of ends) end (map cut_form.bytes_of ends)
    (omega (arith, length-map ends cut_form.cp_of, length-ends list))
    (omega (arith, length-map ends cut_form.cp_of, length-map ends cut_form.bytes_of))
    (subst (All (λ cp. cp < 2 ^ 32)) (sym (map-id ends)) small)
    last
    (All-map (λ part. length part ≡ 0) cut_form.bytes_of ends (λ k d low. refl))

ends_many : (list : List Bookmark) → length (map cut_form.cp_of (bookmark_ends list)) ≡ length list
ends_many list = length-map (bookmark_ends list) cut_form.cp_of ∙ length-ends list

end_back : (list : List Bookmark) (end k : ℕ) (x : Bookmark) → 0 < length list → end < 2 ^ 32 →
    All HasFileNumbers list → slice_get list k ≡ Some x →
    plc_cp (printed_ends list end) (end_place list (take k list) x.to) ≡ x.to
end_back list end k x some last numbers here =
    let place : ℕ = end_place list (take k list) x.to in
    let has = ends_plc list end some last numbers in
    has.cps place (omega (arith, ends_many list, end_within list k x here))
    ∙ (ap (λ (ns : List ℕ). slice_index ns place) (map-id (bookmark_ends list)) ∙ end_there list k x here)

-- ---- all of it

filter_all : {A : Type 0} (p : A → Bool) (xs : List A) → All (λ x. p x ≡ true) xs → filter p xs ≡ xs
filter_all p [] all = refl
filter_all {A} p (x ∷ xs) all =
    rw (All-head (λ y. p y ≡ true) x xs all)
    (ap (λ (ys : List A). x ∷ ys) (filter_all p xs (All-tail (λ y. p y ≡ true) x xs all)))

kept_true : (from to end : ℕ) → from ≤ to → to ≤ end → (nat_le from to && nat_le to end) ≡ true
kept_true from to end ordered within = grind (arith, nat_tests)

-- parts that spell the bookmarks of a list and break no rule
pub record AreBack (parts : BookmarkParts) (list : List Bookmark) : Type 0 where
  pub count : bookmark_count parts.names ≡ length list
  pub each : (k : ℕ) (x : Bookmark) → slice_get list k ≡ Some x → bookmark_at parts k ≡ x
  pub holds : Nowhere (BreaksParts parts)

back_list : (parts : BookmarkParts) (list : List Bookmark) (end : ℕ) → AreBack parts list →
    AreFormedBookmarks end list → kept_bookmarks parts end ≡ list
back_list parts list end back formed =
    let all : All (λ b. is_kept_bookmark end b ≡ true) list =
    All-weaker (IsFormedBookmark end) (λ b. is_kept_bookmark end b ≡ true)
    (λ b h. kept_true b.from b.to end h.ordered h.within) list formed.each in
    ap (λ (n : ℕ). filter (is_kept_bookmark end) (tabulate (bookmark_at parts) n)) back.count
    ∙ (ap (filter (is_kept_bookmark end)) (tabulate_is (bookmark_at parts) list back.each) ∙ filter_all
    (is_kept_bookmark end) list all)

-- the parts of a list that is not empty
some_parts : List Bookmark → ℕ → ℕ → ℕ → ℕ → BookmarkParts
some_parts list end names_at starts_at ends_at = record {
  names = names_front (length list) ++ names_bytes list;
  starts = printed_starts list end;
  ends = printed_ends list end;
  names_at = names_at;
  starts_at = starts_at;
  ends_at = ends_at;
}

one_back : (list : List Bookmark) (end k : ℕ) (x : Bookmark) (names_at starts_at ends_at : ℕ) → 0 < length list →
    length list < 2 ^ 16 → end < 2 ^ 32 → All HasFileNumbers list → All IsNamed list → slice_get list k ≡ Some x →
    bookmark_at (some_parts list end names_at starts_at ends_at) k ≡ x
unfolding some_parts
one_back list end k x names_at starts_at ends_at some few last numbers named here =
    let front : List ℕ = names_front (length list) in
    let names : List ℕ = front ++ names_bytes list in
    let starts : List ℕ = printed_starts list end in
    let ends : List ℕ = printed_ends list end in
    let count : bookmark_count names ≡ length list = front_count (length list) (names_bytes list) few in
    let short : All IsShort list = All-weaker IsNamed IsShort (λ b h. omega (arith, h.1)) list named in
    let units : All (λ b. All (λ u. u < 2 ^ 16) b.name) list =
    All-weaker HasFileNumbers (λ b. All (λ u. u < 2 ^ 16) b.name) (λ b h. h.units) list numbers in
    let below : k < length list = (there_at list k x here).0 in
    let start = start_back list end k x some few last numbers here below in
    let name : bookmark_name_at names k ≡ x.name = name_there front list k x (length-front (length list)) short units
    here in
    let to : plc_cp ends (end_index starts (bookmark_count names) k) ≡ x.to =
    ap (λ (n : ℕ). plc_cp ends (end_index starts n k)) count
    ∙ (ap (plc_cp ends) start.index ∙ end_back list end k x some last numbers here) in
    let flags : u16_at starts (start_entry (bookmark_count names) k + 2) ≡ x.flags =
    ap (λ (n : ℕ). u16_at starts (start_entry n k + 2)) count ∙ start.flags in
    let from = start.from in
    λ i. record { name = name i; from = from i; to = to i; flags = flags i }

parts_hold : (list : List Bookmark) (end names_at starts_at ends_at : ℕ) → 0 < length list → length list < 2 ^ 16 →
    end < 2 ^ 32 → All HasFileNumbers list → All IsNamed list →
    Nowhere (BreaksParts (some_parts list end names_at starts_at ends_at))
unfolding some_parts
parts_hold list end names_at starts_at ends_at some few last numbers named p w =
    let names : List ℕ = names_front (length list) ++ names_bytes list in
    let starts : List ℕ = printed_starts list end in
    let ends : List ℕ = printed_ends list end in
    let count : length list ≡ bookmark_count names = sym (front_count (length list) (names_bytes list) few) in
    let filled = names_filled list few named in
    let whole : IsPlcOf starts 4 (length list) =
    subst (IsPlcOf starts 4) (starts_many list) (starts_plc list end some last numbers).whole in
    let indexes : (k : ℕ) → k < length list → end_index starts (length list) k < length list = λ k below.
    let there = there_is list k below in
    let start = start_back list end k there.0 some few last numbers there.1 below in
    omega (arith, start.index, end_within list k there.0 there.1) in
    let none : Nowhere (BreaksStarts starts starts_at (bookmark_count names)) =
    subst (λ (n : ℕ). Nowhere (BreaksStarts starts starts_at n)) count
    (right_starts starts starts_at (length list) whole indexes) in
    let full : IsPlcOf ends 0 (bookmark_count names) =
    subst (IsPlcOf ends 0) (ends_many list ∙ count) (ends_plc list end some last numbers).whole in
    elim w [
      | inl wrong ↦ right_names names names_at filled.0 filled.1 p wrong
      | inr other ↦ elim other [ inl wrong ↦ none p wrong | inr wrong ↦ wrong.1 full ]
    ]

some_back : (list : List Bookmark) (end names_at starts_at ends_at : ℕ) → 0 < length list → length list ≤ 16000 →
    end < 2 ^ 32 → All HasFileNumbers list → AreFormedBookmarks end list →
    AreBack (some_parts list end names_at starts_at ends_at) list
unfolding some_parts
some_back list end names_at starts_at ends_at some many last numbers formed =
    let few : length list < 2 ^ 16 = omega arith in
    let named : All IsNamed list =
    All-weaker (IsFormedBookmark end) IsNamed (λ b h. (h.named, h.short)) list formed.each in
    record {
      count = front_count (length list) (names_bytes list) few;
      each = λ k x here. one_back list end k x names_at starts_at ends_at some few last numbers named here;
      holds = parts_hold list end names_at starts_at ends_at some few last numbers named;
    }

-- names take bytes
long_names : (front : List ℕ) (list : List Bookmark) → length front ≡ 6 → 0 < length list →
    6 < length (front ++ names_bytes list)
long_names front [] six some = absurd (omega (arith, some))
long_names front (b ∷ bs) six some =
    let count : List ℕ = number_bytes 2 (length b.name) in
    let units : List ℕ = flat_map (number_bytes 2) b.name in
    omega (
      arith,
      six,
      length-append front (names_bytes (b ∷ bs)),
      length-append (count ++ units) (names_bytes bs),
      length-append count units,
      length-number_bytes 2 (length b.name),
    )

yes_lt : (a b : ℕ) → a < b → nat_lt a b ≡ true
yes_lt a b h = grind (arith, nat_tests)

is_read : (parts : BookmarkParts) (list : List Bookmark) (end : ℕ) → 6 < length parts.names →
    in_order bookmark_cmp (kept_bookmarks parts end) ≡ list → bookmarks_of parts end ≡ list
is_read parts list end some read = rw (yes_lt 6 (length parts.names) some) read

pub bookmarks_back : BookmarksAreReadBack
unfolding some_parts
bookmarks_back [] end names_at starts_at ends_at many last numbers formed = (λ p w. omega (arith, w.0), refl)
bookmarks_back (b ∷ bs) end names_at starts_at ends_at many last numbers formed =
    let list : List Bookmark = b ∷ bs in
    let parts : BookmarkParts = some_parts list end names_at starts_at ends_at in
    let back : AreBack parts list =
    some_back list end names_at starts_at ends_at (omega arith) many last numbers formed in
    let kept : kept_bookmarks parts end ≡ list = back_list parts list end back formed in
    let some : 6 < length parts.names =
    long_names (names_front (length list)) list (length-front (length list)) (omega arith) in (
      λ p w. back.holds p w.1,
      is_read parts list end some (ap (in_order bookmark_cmp) kept
          ∙ sorted_stays bookmark_cmp bookmark_total bookmark_alone list formed.in_order),
    )
