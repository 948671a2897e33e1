use Rattle.std.proofs.Common.{◌≡◌, ◌++◌, length, map}
use Rattle.std.specs.List.{filter}
use Rattle.std.specs.FinMap.{entries}
use Rattle.edit_ops.specs.Fresh.{is_row_code}
use Rattle.edit_ops.proofs.WithoutLemmas.{keys}
use Rattle.edit_ops.proofs.marks.outside_tables.Given as goal

-- the codes of tables so far, and those of what is left
abbrev pub invariant-loop-code : goal.invariant-loop-code
invariant-loop-code l = map (λ code. code.0) l.codes.items ++ filter is_row_code (keys l.left) ≡ filter
    is_row_code (keys (entries l.pap))

abbrev pub decreases-loop-code : goal.decreases-loop-code
decreases-loop-code l = length l.left
