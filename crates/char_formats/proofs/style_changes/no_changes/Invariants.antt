use Rattle.std.proofs.Common.{◌≡◌, replicate, None}
use Rattle.char_formats.proofs.style_changes.no_changes.Given as goal

abbrev pub invariant-loop-slot : goal.invariant-loop-slot
invariant-loop-slot l = l.known.items ≡ replicate l._slot None
