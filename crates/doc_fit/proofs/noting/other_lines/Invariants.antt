use Rattle.std.proofs.Common.{◌≡◌, take}
use Rattle.std.specs.Prelude.{Some}
use Rattle.doc_fit.specs.Noted.{lines_left}
use Rattle.doc_fit.proofs.noting.other_lines.Given as goal

-- the lines so far
abbrev pub invariant-loop-k : goal.invariant-loop-k
invariant-loop-k l = l.left ≡ lines_left (Some l.stories) (take l.k l.lines)
