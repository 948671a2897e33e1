use Rattle.std.proofs.Common.{◌≡◌, take}
use Rattle.style_sheet.specs.Slots.{styles_of}
use Rattle.style_sheet.proofs.slots.same_slots.Given as goal

-- the slots so far have the same styles
abbrev pub invariant-loop-i : goal.invariant-loop-i
invariant-loop-i l = styles_of (take l.i l.ours) ≡ styles_of (take l.i l.theirs)
