use Rattle.std.proofs.Common.{◌≡◌, ◌++◌, length, take}
use Rattle.doc_parts.specs.PrintedBookmarks.{names_front, names_bytes}
use Rattle.doc_parts.proofs.bookmark_print.print_names.Given as goal

-- the front, and the names so far
abbrev pub invariant-loop-i : goal.invariant-loop-i
invariant-loop-i l = l.bytes ≡ names_front (length l.list) ++ names_bytes (take l.i l.list)
