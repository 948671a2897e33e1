use Rattle.std.proofs.Common.{take}
use Rattle.cfb_in_place.specs.Tables.{AreFreed}
use Rattle.cfb_in_place.proofs.tables.free_entries.Given as goal

abbrev pub invariant-loop-sector : goal.invariant-loop-sector
invariant-loop-sector l = AreFreed l.fn.entries l.entries (take l.sector-index l.freed)
