use Rattle.std.proofs.Common.{◌≡◌, take}
use Rattle.further_notes.specs.Splices.{unit_with, with_kinds}
use Rattle.further_notes.proofs.main_text.units_noted.Given as goal

-- the units so far
abbrev pub invariant-loop-at : goal.invariant-loop-at
invariant-loop-at l = l.made.items ≡ take l.at (with_kinds (unit_with l.story) l.kinds l.units)
