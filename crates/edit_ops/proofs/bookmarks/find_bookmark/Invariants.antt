use Rattle.std.proofs.Common.{◌≡◌, drop}
use Rattle.std.specs.List.{find}
use Rattle.document_bookmarks.specs.Names.{is_named}
use Rattle.edit_ops.proofs.bookmarks.find_bookmark.Given as goal

-- the first of that name is among those that are left
abbrev pub invariant-loop-i : goal.invariant-loop-i
invariant-loop-i l = find (is_named l.name) l.list ≡ find (is_named l.name) (drop l.i l.list)
