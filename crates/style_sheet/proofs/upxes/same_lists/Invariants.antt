use Rattle.std.proofs.Common.{◌≡◌, take}
use Rattle.style_sheet.proofs.upxes.same_lists.Given as goal

abbrev pub invariant-loop-i : goal.invariant-loop-i
invariant-loop-i l = take l.i l.ours ≡ take l.i l.theirs
