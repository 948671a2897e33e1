use Rattle.std.proofs.Common.{◌≡◌, []}
use Rattle.std.specs.List.{filter}
use Rattle.doc_parts.specs.Tabulated.{tabulate}
use Rattle.doc_parts.specs.BookmarkParts.{parts_at, bookmark_at, is_kept_bookmark, bookmark_name_place}
use Rattle.doc_parts.proofs.bookmark_parts.keep_bookmarks.Given as goal

-- the bookmarks so far
abbrev pub invariant-loop-k : goal.invariant-loop-k
invariant-loop-k l = record {
  list :
      l.list.items ≡ filter (is_kept_bookmark l.main_len) (tabulate (bookmark_at (parts_at l.names l.starts l.ends []))
      l.k);
  place : l.place ≡ bookmark_name_place l.names l.k;
}
