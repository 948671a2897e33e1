use Rattle.std.proofs.Common.{◌≡◌, take}
use Rattle.run_lists.specs.Spread.{expanded, total_len}
use Rattle.doc_columns.proofs.copying.cut_rows.Given as goal

-- the runs so far are put
abbrev pub invariant-loop-run : goal.invariant-loop-run
invariant-loop-run g l = record {
  place : l.place ≡ total_len (take l.run-index l.all);
  rows : expanded l.rows.items ≡ expanded (take l.run-index l.all);
}
