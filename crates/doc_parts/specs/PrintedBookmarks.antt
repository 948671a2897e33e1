-- [MS-DOC] SttbfBkmk, PlcfBkf and PlcfBkl, as they are printed, and that they are read back.
use Rattle.std.specs.Prelude.{◌≡◌, ℕ, ◌+◌, ◌<◌, ◌≤◌, ◌^◌, ◌==◌, nat_lt, List, [], ◌∷◌, ◌++◌, length, map, All, Some}
use Rattle.std.specs.List.{flat_map, count_by}
use Rattle.std.specs.Ordering.{nat_cmp}
use Rattle.doc_bits.specs.Number.{u16_at, number_bytes}
use Rattle.doc_bits.specs.Rules.{Hold}
use Rattle.document_bookmarks.specs.declared.bookmark_order.Bookmark.{Bookmark}
use Rattle.doc_parts.specs.declared.bookmark_print.Start.{Start}
use Rattle.document_bookmarks.specs.Order.{in_order}
use Rattle.doc_parts.specs.Table.{EntryForm, printed_entries}
use Rattle.doc_parts.specs.Stories.{printed_texts}
use Rattle.document_bookmarks.specs.Bookmarks.{HasFileNumbers, AreFormedBookmarks}
use Rattle.doc_parts.specs.BookmarkParts.{BookmarkParts, bookmarks_of, bookmark_rules}

-- a count, and the units
abbrev pub bookmark_name_bytes : List ℕ → List ℕ
bookmark_name_bytes name = number_bytes 2 (length name) ++ flat_map (number_bytes 2) name

-- 0xFFFF, the count and 0
abbrev pub names_front : ℕ → List ℕ
names_front count = number_bytes 2 0xFFFF ++ (number_bytes 2 count ++ number_bytes 2 0)

abbrev pub names_bytes : List Bookmark → List ℕ
names_bytes list = flat_map (λ (bookmark : Bookmark). bookmark_name_bytes bookmark.name) list

abbrev pub printed_names : List Bookmark → List ℕ
printed_names [] = []
printed_names (b ∷ bs) = names_front (length (b ∷ bs)) ++ names_bytes (b ∷ bs)

-- the ends in their order
abbrev pub bookmark_ends : List Bookmark → List ℕ
bookmark_ends list = in_order nat_cmp (map (λ (bookmark : Bookmark). bookmark.to) list)

-- the place of an end among them: behind the lesser ones, and behind the equal ones of the bookmarks before
abbrev pub end_place : List Bookmark → List Bookmark → ℕ → ℕ
end_place list before to =
    count_by (λ (bookmark : Bookmark). nat_lt bookmark.to to) list
    + count_by (λ (bookmark : Bookmark). bookmark.to == to) before

-- [MS-DOC] FBKF: the place of the end, and the flags
abbrev pub start_form : EntryForm Start
start_form = record {
  size = 4;
  cp_of = λ start. start.cp;
  bytes_of = λ start. number_bytes 2 start.index ++ number_bytes 2 start.flags;
  read_from = λ cp bytes. Some (record { cp = cp; index = u16_at bytes 0; flags = u16_at bytes 2 });
}

abbrev pub bookmark_start : List Bookmark → List Bookmark → Bookmark → Start
bookmark_start list before bookmark =
    record { cp = bookmark.from; index = end_place list before bookmark.to; flags = bookmark.flags }

-- the starts of the last ones of a list, where those before are passed
unfoldable pub starts_of : List Bookmark → List Bookmark → List Bookmark → List Start
starts_of list before [] = []
starts_of list before (b ∷ bs) = bookmark_start list before b ∷ starts_of list (before ++ b ∷ []) bs

abbrev pub printed_starts : List Bookmark → ℕ → List ℕ
printed_starts list end = printed_entries start_form (starts_of list [] list) end

abbrev pub printed_ends : List Bookmark → ℕ → List ℕ
printed_ends list end = printed_texts (bookmark_ends list) end

-- the three parts of a list, at these places
abbrev pub printed_parts : List Bookmark → ℕ → ℕ → ℕ → ℕ → BookmarkParts
printed_parts list end names_at starts_at ends_at = record {
  names = printed_names list;
  starts = printed_starts list end;
  ends = printed_ends list end;
  names_at = names_at;
  starts_at = starts_at;
  ends_at = ends_at;
}

-- printed bookmarks of a main text of `end` units break no rule, and are what is read
abbrev pub BookmarksAreReadBack : Type 0
BookmarksAreReadBack =
    (list : List Bookmark) (end names_at starts_at ends_at : ℕ) → length list ≤ 16000 → end < 2 ^ 32 →
    All HasFileNumbers list → AreFormedBookmarks end list →
    let parts = printed_parts list end names_at starts_at ends_at in
    Hold (bookmark_rules parts) × (bookmarks_of parts end ≡ list)
