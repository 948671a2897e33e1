use Rattle.std.proofs.Common.{◌≡◌, take}
use Rattle.run_lists.specs.Spread.{expanded, total_len}
use Rattle.doc_mends.specs.Cuts.{unflagged}
use Rattle.doc_mends.proofs.cutting.cut_runs.Given as goal

-- the runs so far
abbrev pub invariant-loop-k : goal.invariant-loop-k
invariant-loop-k g l = record {
  made : l.made ≡ unflagged (take l.begin l.flags) (expanded (take l.k l.runs));
  begin : l.begin ≡ total_len (take l.k l.runs);
}
