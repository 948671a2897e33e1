use Rattle.std.proofs.Common.{◌≡◌, take}
use Rattle.edit_generator.proofs.commands.units_of.Given as goal

-- the bytes so far
abbrev pub invariant-loop-byte : goal.invariant-loop-byte
invariant-loop-byte l = l.units ≡ take l.byte-index l.text
