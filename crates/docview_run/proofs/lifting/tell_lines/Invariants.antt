use Rattle.std.proofs.Common.{length, IsUtf8}
use Rattle.docview_run.proofs.lifting.tell_lines.Given as goal

abbrev pub invariant-turns : goal.invariant-turns
invariant-turns g l = IsUtf8 l.rest

abbrev pub decreases-turns : goal.decreases-turns
decreases-turns g l = length l.rest
