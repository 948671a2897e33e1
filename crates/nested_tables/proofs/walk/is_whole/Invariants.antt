use Rattle.std.proofs.Common.{◌≡◌, drop}
use Rattle.nested_tables.specs.Tables.{is_whole_table}
use Rattle.nested_tables.proofs.walk.is_whole.Given as goal

-- the paragraphs so far are so deep, and the last of them ends a row or does not
abbrev pub invariant-loop-number : goal.invariant-loop-number
invariant-loop-number l =
    is_whole_table l.depth l.ended (drop l.from l.paragraphs) ≡ is_whole_table l.depth l.last (drop l.number
    l.paragraphs)
