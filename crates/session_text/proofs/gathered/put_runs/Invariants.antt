use Rattle.std.proofs.Common.{◌≡◌, ◌++◌, take}
use Rattle.run_lists.specs.Spread.{expanded}
use Rattle.session_text.proofs.gathered.put_runs.Given as goal

-- the values of the runs so far are put
abbrev pub invariant-loop-run : goal.invariant-loop-run
invariant-loop-run g l = l.out ≡ l.initial.out ++ expanded (take l.run-index l.runs)
