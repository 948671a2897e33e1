use Rattle.std.proofs.Common.{◌≡◌, map, take}
use Rattle.huge_papx.specs.Defined.{definition_mend}
use Rattle.huge_papx.proofs.defining.row_mends.Given as goal

-- the mends so far
abbrev pub invariant-loop-k : goal.invariant-loop-k
invariant-loop-k l = l.mends.items ≡ map definition_mend (take l.k l.rows)
