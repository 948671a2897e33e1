use Rattle.std.proofs.Common.{◌≡◌, drop}
use Rattle.huge_papx.specs.Data.{data_of}
use Rattle.huge_papx.proofs.data.data_of.Given as goal

-- the streams so far have another name
abbrev pub invariant-loop-i : goal.invariant-loop-i
invariant-loop-i l = data_of l.streams ≡ data_of (drop l.i l.streams)
