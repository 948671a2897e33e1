use Rattle.std.proofs.Common.{◌≡◌}
use Rattle.edit_generator.specs.Generated.{edit_number}
use Rattle.edit_generator.proofs.commands.edit_number.Given as goal

abbrev pub invariant-loop-i : goal.invariant-loop-i
invariant-loop-i l = l.number ≡ edit_number l.seed l._i
