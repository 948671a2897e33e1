use Rattle.std.proofs.Common.{◌≡◌, ◌≤◌, take}
use Rattle.script_run.specs.Saves.{save_count}
use Rattle.script_run.proofs.saves.count_mode.Given as goal

abbrev pub invariant-loop-i : goal.invariant-loop-i
invariant-loop-i l = (l.count ≡ save_count l.full (take l.i l.script)) × (l.count ≤ l.i)
