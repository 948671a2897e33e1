-- Rule 57: the bookmarks. It alone checks the pairs of their three parts.
use Rattle.std.specs.Prelude.{◌≡◌, ◌⊎◌, ℕ, ◌+◌, ◌<◌, List, [], ◌∷◌, length}
use Rattle.doc_bits.specs.declared.places.Where.TheVariants as stands
use Rattle.doc_bits.specs.Rules.{Rules, rule, Nowhere}
use Rattle.doc_bits.specs.Places.{Place}
use Rattle.fib_form.specs.Fib.{fib_pair, fib_pair_place}
use Rattle.fib_form.specs.TableParts.{pair_number}
use Rattle.fib_form.specs.declared.table_parts.TablePart.{TablePart}
use Rattle.fib_form.specs.declared.table_parts.TablePart.TheVariants.{SttbfBkmk, PlcfBkf, PlcfBkl}
use Rattle.fib_form.specs.declared.stories.StoryKind.TheVariants.{Main}
use Rattle.document_bookmarks.specs.declared.bookmark_order.Bookmark.{Bookmark}
use Rattle.doc_parts.specs.BookmarkParts.{BookmarkParts, parts_at, bookmarks_of, BreaksParts}
use Rattle.file_rules.specs.Source.{DocSource, part_place, table_part_bytes, story_length}

-- the three parts, as far as they are within the table stream
abbrev pub bookmark_parts : DocSource → BookmarkParts
bookmark_parts source =
    parts_at (table_part_bytes source SttbfBkmk) (table_part_bytes source PlcfBkf) (table_part_bytes source PlcfBkl)
    (part_place source SttbfBkmk ∷ part_place source PlcfBkf ∷ part_place source PlcfBkl ∷ [])

-- the pair of the names gives more than the six bytes of no names. Else the other two pairs may be any numbers
abbrev pub HasNamePair : DocSource → Type 0
HasNamePair source = 6 < (fib_pair source.wd (pair_number SttbfBkmk)).1

-- the pair of a part leaves the table stream. Profile: also where the part is empty
abbrev pub IsLeavingPair : DocSource → TablePart → ℕ → Type 0
IsLeavingPair source part place =
    let pair = fib_pair source.wd (pair_number part) in
    (place ≡ fib_pair_place (pair_number part)) × (length source.table < pair.0 + pair.1)

abbrev pub HasLeavingPair : DocSource → ℕ → Type 0
HasLeavingPair source place =
    IsLeavingPair source SttbfBkmk place ⊎ (IsLeavingPair source PlcfBkf place ⊎ IsLeavingPair source PlcfBkl place)

-- a pair that leaves the table stream, by its place in WordDocument; where none does, what the parts break
abbrev pub BreaksBookmarks : DocSource → Place → Type 0
BreaksBookmarks source place =
    HasNamePair source
    × (((place.0 ≡ stands.Wd) × HasLeavingPair source place.1)
    ⊎ ((place.0 ≡ stands.Table) × (Nowhere (HasLeavingPair source) × BreaksParts (bookmark_parts source) place.1)))

abbrev pub rules_of_bookmarks : DocSource → Rules Place
rules_of_bookmarks source = rule 57 (BreaksBookmarks source)

-- the bookmarks of a document: those that are kept, in their order
abbrev pub HasBookmarks : DocSource → List Bookmark → Type 0
HasBookmarks source list = list ≡ bookmarks_of (bookmark_parts source) (story_length source Main)
