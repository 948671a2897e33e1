use Rattle.std.proofs.Common.{◌≡◌, take}
use Rattle.style_sheet.specs.Slots.{styles_of}
use Rattle.style_sheet.proofs.slots.Slots.copy.Given as goal

-- the slots so far are copied
abbrev pub invariant-loop-slot : goal.invariant-loop-slot
invariant-loop-slot l = styles_of l.styles.items ≡ styles_of (take l.slot-index l.slot-items)
