use Rattle.std.proofs.Common.{◌≡◌, take}
use Rattle.doc_mends.specs.PlainRows.{rows_plain}
use Rattle.doc_mends.proofs.tables.make_rows.Given as goal

-- the first rows became paragraphs
abbrev pub invariant-loop-k : goal.invariant-loop-k
invariant-loop-k l = l.items ≡ rows_plain (take l.k l.rows) l.fn.items
