use Rattle.std.proofs.Common.{take}
use Rattle.cfb_in_place.specs.Roles.{AreGiven}
use Rattle.cfb_in_place.proofs.roles.give.Given as goal

abbrev pub invariant-loop-index : goal.invariant-loop-index
invariant-loop-index l = AreGiven l.fn.roles l.roles (take l.index l.sectors) l.part
