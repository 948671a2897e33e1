use Rattle.std.proofs.Common.{◌≡◌, ◌++◌, take}
use Rattle.doc_show.specs.Listing.{bookmark_lines}
use Rattle.doc_show.proofs.bookmark_lines.push_bookmarks.Given as goal

abbrev pub invariant-loop-k : goal.invariant-loop-k
invariant-loop-k l = l.text ≡ l.initial.text ++ bookmark_lines (take l.k l.list)
