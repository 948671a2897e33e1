use Rattle.std.proofs.Common.{◌≡◌, take}
use Rattle.run_lists.specs.Spread.{expanded}
use Rattle.script_run.specs.GeneratedRuns.{marks_beside}
use Rattle.script_run.proofs.generating.count_marks.Given as goal

-- as many as the runs so far have
abbrev pub invariant-loop-run : goal.invariant-loop-run
invariant-loop-run l = l.count ≡ marks_beside (expanded (take l.run-index l.attachments))
