use Rattle.std.proofs.Common.{◌≡◌, drop}
use Rattle.cell_spans.specs.Rows.{parts_end}
use Rattle.cell_spans.proofs.rows.parts_end.Given as goal

-- the cells so far are parts
abbrev pub invariant-loop-number : goal.invariant-loop-number
invariant-loop-number l =
    parts_end l.definition l.from (drop l.from l.blanks) ≡ parts_end l.definition l.number (drop l.number l.blanks)
