use Rattle.std.proofs.Common.{◌≡◌, ◌+◌, take}
use Rattle.run_lists.specs.Spread.{total_len}
use Rattle.run_lists.proofs.cut.find.Given as goal

-- what is left is counted from the run
abbrev pub invariant-loop-run : goal.invariant-loop-run
invariant-loop-run g l = total_len (take l.run l.runs) + l.left ≡ total_len (take l.begin l.runs) + l.place
