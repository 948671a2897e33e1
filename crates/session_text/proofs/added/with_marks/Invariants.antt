use Rattle.std.proofs.Common.{◌≡◌, ◌++◌, replicate}
use Rattle.full_save.specs.Text.{extra_mark}
use Rattle.session_text.proofs.added.with_marks.Given as goal

-- so many marks are there
abbrev pub invariant-loop-k : goal.invariant-loop-k
invariant-loop-k l = l.items ≡ l.fn.items ++ replicate l._k extra_mark
