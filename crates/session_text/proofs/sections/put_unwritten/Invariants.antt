use Rattle.std.proofs.Common.{◌≡◌, ◌++◌, replicate, None}
use Rattle.session_text.proofs.sections.put_unwritten.Given as goal

-- so many are there
abbrev pub invariant-loop-k : goal.invariant-loop-k
invariant-loop-k l = l.places.items ≡ l.initial.places.items ++ replicate l._k None
