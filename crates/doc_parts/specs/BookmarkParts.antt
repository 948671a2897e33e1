-- [MS-DOC] SttbfBkmk, PlcfBkf and PlcfBkl: the names of bookmarks, where they begin, and where they end.
use Rattle.std.specs.Prelude.{◌≡◌, ◌⊎◌, ℕ, zero, suc, ◌+◌, ◌*◌, ◌<◌, ◌≤◌, ◌&&◌, nat_le, nat_lt, Bool, List, []}
use Rattle.std.specs.Prelude.{length, slice_index, if◌then◌else◌}
use Rattle.std.specs.List.{filter}
use Rattle.doc_bits.specs.Number.{u16_at}
use Rattle.doc_bits.specs.Plc.{IsPlcOf, plc_cp}
use Rattle.doc_bits.specs.Rules.{Rules, rule, Among}
use Rattle.document_bookmarks.specs.declared.bookmark_order.Bookmark.{Bookmark}
use Rattle.doc_parts.specs.Table.{IsMalformedPart}
use Rattle.document_bookmarks.specs.Order.{in_order}
use Rattle.doc_parts.specs.Tabulated.{tabulate}
use Rattle.document_bookmarks.specs.Bookmarks.{bookmark_cmp}

-- the three parts, and where they are in the table stream
pub record BookmarkParts : Type 0 where
  pub names : List ℕ
  pub starts : List ℕ
  pub ends : List ℕ
  pub names_at : ℕ
  pub starts_at : ℕ
  pub ends_at : ℕ

-- the three at their places
abbrev pub parts_at : List ℕ → List ℕ → List ℕ → List ℕ → BookmarkParts
parts_at names starts ends at = record {
  names = names;
  starts = starts;
  ends = ends;
  names_at = slice_index at 0;
  starts_at = slice_index at 1;
  ends_at = slice_index at 2;
}

-- ---- what they spell

-- the number of bookmarks that the names give
abbrev pub bookmark_count : List ℕ → ℕ
bookmark_count names = u16_at names 2

-- where a name is: a 16-bit count, and its units
unfoldable pub bookmark_name_place : List ℕ → ℕ → ℕ
bookmark_name_place names zero = 6
bookmark_name_place names (suc k) = bookmark_name_place names k + 2 + 2 * u16_at names (bookmark_name_place names k)

abbrev pub bookmark_name_at : List ℕ → ℕ → List ℕ
bookmark_name_at names k =
    let place = bookmark_name_place names k in tabulate (λ i. u16_at names (place + 2 + 2 * i)) (u16_at names place)

-- where the entry beside a start is: the 16-bit place of its end among the ends, and 16-bit flags
abbrev pub start_entry : ℕ → ℕ → ℕ
start_entry count k = 4 * (count + 1) + 4 * k

abbrev pub end_index : List ℕ → ℕ → ℕ → ℕ
end_index starts count k = u16_at starts (start_entry count k)

abbrev pub bookmark_at : BookmarkParts → ℕ → Bookmark
bookmark_at parts k = record {
  name = bookmark_name_at parts.names k;
  from = plc_cp parts.starts k;
  to = plc_cp parts.ends (end_index parts.starts (bookmark_count parts.names) k);
  flags = u16_at parts.starts (start_entry (bookmark_count parts.names) k + 2);
}

-- one whose end is before its beginning or outside the main text is dropped
abbrev pub is_kept_bookmark : ℕ → Bookmark → Bool
is_kept_bookmark main_len bookmark = nat_le bookmark.from bookmark.to && nat_le bookmark.to main_len

-- names of at most six bytes are no bookmarks, whatever the other parts have
abbrev pub HasNames : List ℕ → Type 0
HasNames names = 6 < length names

-- the bookmarks that are kept, as the parts have them
abbrev pub kept_bookmarks : BookmarkParts → ℕ → List Bookmark
kept_bookmarks parts main_len =
    filter (is_kept_bookmark main_len) (tabulate (bookmark_at parts) (bookmark_count parts.names))

abbrev pub bookmarks_of : BookmarkParts → ℕ → List Bookmark
bookmarks_of parts main_len =
    (if nat_lt 6 (length parts.names) then in_order bookmark_cmp (kept_bookmarks parts main_len) else [])

-- ---- where they break their rule

-- 0xFFFF, the count, and 0
pub record HasNameFront (names : List ℕ) : Type 0 where
  pub wide : u16_at names 0 ≡ 0xFFFF
  pub extra : u16_at names 4 ≡ 0

-- the names before one of them are whole: each has 1 to 255 units, and ends within the part
pub record IsWholeName (names : List ℕ) (k : ℕ) : Type 0 where
  pub some : 1 ≤ u16_at names (bookmark_name_place names k)
  pub short : u16_at names (bookmark_name_place names k) ≤ 255
  pub within : bookmark_name_place names (k + 1) ≤ length names

abbrev pub AreWholeNames : List ℕ → ℕ → Type 0
AreWholeNames names count = (k : ℕ) → k < count → IsWholeName names k

-- a count that is there behind whole names is no number from 1 to 255
pub record IsWrongCount (names : List ℕ) (at k place : ℕ) : Type 0 where
  pub before : AreWholeNames names k
  pub there : bookmark_name_place names k + 2 ≤ length names
  pub wrong : (u16_at names (bookmark_name_place names k) ≡ 0) ⊎ (255 < u16_at names (bookmark_name_place names k))
  pub here : place ≡ at + bookmark_name_place names k

-- all names are whole, and the last one ends where the part does
pub record FillNames (names : List ℕ) : Type 0 where
  pub whole : AreWholeNames names (bookmark_count names)
  pub end : bookmark_name_place names (bookmark_count names) ≡ length names

abbrev pub HasWrongCount : List ℕ → ℕ → ℕ → Type 0
HasWrongCount names at = Among (bookmark_count names) (IsWrongCount names at)

-- the names as a whole: a wrong front; or they do not fill the part, though each count that is reached is right
abbrev pub AreWrongNames : List ℕ → Type 0
AreWrongNames names = ¬ (HasNameFront names) ⊎ (¬ (FillNames names) × ((p : ℕ) → ¬ (HasWrongCount names 0 p)))

abbrev pub BreaksNames : List ℕ → ℕ → ℕ → Type 0
BreaksNames names at place = ((place ≡ at) × AreWrongNames names) ⊎ HasWrongCount names at place

-- an end that is not there, at its number
pub record IsWrongIndex (starts : List ℕ) (at count k place : ℕ) : Type 0 where
  pub outside : count ≤ end_index starts count k
  pub here : place ≡ at + start_entry count k

abbrev pub BreaksStarts : List ℕ → ℕ → ℕ → ℕ → Type 0
BreaksStarts starts at count place =
    IsMalformedPart (IsPlcOf starts 4 count) at place
    ⊎ (IsPlcOf starts 4 count × Among count (IsWrongIndex starts at count) place)

-- the parts break their rule at a place in the table stream
abbrev pub BreaksParts : BookmarkParts → ℕ → Type 0
BreaksParts parts place =
    let count = bookmark_count parts.names in
    BreaksNames parts.names parts.names_at place
    ⊎ (BreaksStarts parts.starts parts.starts_at count place
    ⊎ IsMalformedPart (IsPlcOf parts.ends 0 count) parts.ends_at place)

-- parts with names that break no rule
pub record AreValidParts (parts : BookmarkParts) : Type 0 where
  pub front : HasNameFront parts.names
  pub filled : FillNames parts.names
  pub starts : IsPlcOf parts.starts 4 (bookmark_count parts.names)
  pub indexes :
      (k : ℕ) → k < bookmark_count parts.names →
      end_index parts.starts (bookmark_count parts.names) k < bookmark_count parts.names
  pub ends : IsPlcOf parts.ends 0 (bookmark_count parts.names)

-- the part of rule 57 that names the table stream
abbrev pub bookmark_rules : BookmarkParts → Rules ℕ
bookmark_rules parts = rule 57 (λ place. HasNames parts.names × BreaksParts parts place)
