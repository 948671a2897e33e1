use Rattle.std.proofs.Common.{◌≡◌, take}
use Rattle.view_paths.proofs.path.shared_count.Given as goal

abbrev pub invariant-loop-i : goal.invariant-loop-i
invariant-loop-i g l = take l.i l.from ≡ take l.i l.to
