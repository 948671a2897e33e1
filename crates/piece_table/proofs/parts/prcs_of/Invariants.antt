use Rattle.std.proofs.Common.{◌-◌, length}
use Rattle.piece_table.specs.Front.{ArePrcs}
use Rattle.piece_table.proofs.parts.prcs_of.Given as goal

-- the Prcs before an offset are there
abbrev pub invariant-loop-grpprl : goal.invariant-loop-grpprl
invariant-loop-grpprl l = ArePrcs l.clx l.prcs l.at

abbrev pub decreases-loop-grpprl : goal.decreases-loop-grpprl
decreases-loop-grpprl l = length l.clx - l.at
