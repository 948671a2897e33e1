use Rattle.std.proofs.Common.{◌≡◌, map, take}
use Rattle.document_bookmarks.specs.declared.bookmark_order.Bookmark.{Bookmark}
use Rattle.doc_parts.proofs.bookmark_print.ends_in_list.Given as goal

-- the ends so far
abbrev pub invariant-loop-i : goal.invariant-loop-i
invariant-loop-i l = l.ends.items ≡ map (λ (bookmark : Bookmark). bookmark.to) (take l.i l.list)
