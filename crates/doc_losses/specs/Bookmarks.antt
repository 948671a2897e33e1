-- The bookmarks of a file, those among them that this profile drops.
use Rattle.std.specs.Prelude.{ℕ, List, [], length, map, nat_lt, if◌then◌else◌}
use Rattle.fib_form.specs.Fib.{table_part}
use Rattle.fib_form.specs.TableParts.{pair_number}
use Rattle.fib_form.specs.declared.table_parts.TablePart.TheVariants.{SttbfBkmk, PlcfBkf, PlcfBkl}
use Rattle.document_bookmarks.specs.declared.bookmark_order.Bookmark.{Bookmark}
use Rattle.doc_parts.specs.BookmarkParts.{BookmarkParts, parts_at, bookmark_at, bookmark_count}
use Rattle.doc_parts.specs.Tabulated.{tabulate}
use Rattle.text_losses.specs.declared.features.TextFeature.{TextFeature}
use Rattle.text_losses.specs.declared.features.TextFeature.TheVariants as has

-- the three parts
abbrev pub file_bookmark_parts : List ℕ → List ℕ → BookmarkParts
file_bookmark_parts wd table =
    parts_at (table_part wd table (pair_number SttbfBkmk)) (table_part wd table (pair_number PlcfBkf))
    (table_part wd table (pair_number PlcfBkl)) []

-- all that they spell, in their order
abbrev pub all_bookmarks : BookmarkParts → List Bookmark
all_bookmarks parts =
    if nat_lt 6 (length parts.names) then tabulate (bookmark_at parts) (bookmark_count parts.names) else []

abbrev pub bookmark_feature : Bookmark → TextFeature
bookmark_feature bookmark = has.Bookmark bookmark.name bookmark.from bookmark.to

abbrev pub bookmark_features : BookmarkParts → List TextFeature
bookmark_features parts = map bookmark_feature (all_bookmarks parts)
