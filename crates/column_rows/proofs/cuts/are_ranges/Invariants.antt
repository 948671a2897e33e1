use Rattle.std.proofs.Common.{◌≡◌}
use Rattle.column_rows.proofs.cuts.are_ranges.Given as goal

-- the whole text stays
abbrev pub invariant-loop-from : goal.invariant-loop-from
invariant-loop-from l = l.whole ≡ l.text
