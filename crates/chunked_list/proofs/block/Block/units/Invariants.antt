use Rattle.std.proofs.Common.{◌≡◌, take}
use Rattle.chunked_list.specs.Blocks.{total_units}
use Rattle.chunked_list.proofs.block.Block.units.Given as goal

-- the units of the items so far
abbrev pub invariant-loop-i : goal.invariant-loop-i
invariant-loop-i g l = l.total ≡ total_units g.T.Measured.units (take l.i l.self)
