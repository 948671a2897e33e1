use Rattle.std.proofs.Common.{◌≡◌, ◌+◌, ◌++◌, ◌*◌, ◌≤◌, [], map}
use Rattle.doc_parts.specs.BookmarkParts.{parts_at, bookmark_at, bookmark_name_place}
use Rattle.doc_parts.specs.Tabulated.{tabulate}
use Rattle.doc_losses.specs.Bookmarks.{bookmark_feature}
use Rattle.doc_losses.specs.Losses.{lost_features}
use Rattle.doc_losses.proofs.bookmarks.add_bookmarks.Given as goal

-- the bookmarks so far, and where the next name is
abbrev pub invariant-loop-k : goal.invariant-loop-k
invariant-loop-k l = record {
  list :
      l.list.items ≡ l.fn.list.items ++ lost_features l.main_len (map bookmark_feature (tabulate (bookmark_at (parts_at
      l.parts.names.now l.parts.starts.now l.parts.ends.now [])) l.k));
  place : l.place ≡ bookmark_name_place l.parts.names.now l.k;
  low : l.place ≤ 6 + l.k * 131072;
}
