use Rattle.std.proofs.Common.{◌≡◌, ◌≤◌, length}
use Rattle.doc_parts.specs.BookmarkParts.{bookmark_name_place, AreWholeNames}
use Rattle.doc_parts.proofs.bookmark_parts.names_fault.Given as goal

-- the names so far are whole
abbrev pub invariant-loop-k : goal.invariant-loop-k
invariant-loop-k l = record {
  place : l.place ≡ bookmark_name_place l.names l._k;
  whole : AreWholeNames l.names l._k;
  within : l.place ≤ length l.names;
}
