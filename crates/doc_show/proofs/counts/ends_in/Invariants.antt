use Rattle.std.proofs.Common.{◌≡◌, take}
use Rattle.std.specs.List.{sum_by}
use Rattle.doc_show.proofs.CountLemmas.{run_ends}
use Rattle.doc_show.proofs.counts.ends_in.Given as goal

-- the sections that end in the runs so far
abbrev pub invariant-loop-run : goal.invariant-loop-run
invariant-loop-run l = l.count ≡ sum_by run_ends (take l.run-index l.runs)
