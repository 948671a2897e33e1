use Rattle.std.proofs.Common.{◌≡◌, [], take}
use Rattle.doc_parts.specs.PrintedBookmarks.{starts_of}
use Rattle.doc_parts.proofs.NumberingLemmas.{ArePassed}
use Rattle.doc_parts.proofs.bookmark_print.numbered_starts.Given as goal

-- the starts so far, and how many equal ends were passed
abbrev pub invariant-loop-i : goal.invariant-loop-i
invariant-loop-i l = record {
  starts : l.starts.items ≡ starts_of l.list [] (take l.i l.list);
  passed : ArePassed l.list (take l.i l.list) l.passed.items;
}
