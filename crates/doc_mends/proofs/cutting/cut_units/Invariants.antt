use Rattle.std.proofs.Common.{◌≡◌, take}
use Rattle.doc_mends.specs.Cuts.{unflagged}
use Rattle.doc_mends.proofs.cutting.cut_units.Given as goal

-- the units so far
abbrev pub invariant-loop-at : goal.invariant-loop-at
invariant-loop-at l = l.made.items ≡ unflagged (take l.at l.flags) (take l.at l.units)
