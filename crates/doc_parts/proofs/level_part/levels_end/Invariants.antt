use Rattle.doc_parts.specs.Levels.{AreLevelsFrom}
use Rattle.doc_parts.proofs.level_part.levels_end.Given as goal

-- the levels so far are whole
abbrev pub invariant-loop-k : goal.invariant-loop-k
invariant-loop-k l = AreLevelsFrom l.table l.from l._k l.start
