use Rattle.std.proofs.Common.{take}
use Rattle.doc_patch.specs.Places.{items_at}
use Rattle.doc_mends.specs.Judging.{IsMendVerdict, IsChpWalk}
use Rattle.doc_mends.proofs.judging.check.Given as goal

-- the first ranges are checked
abbrev pub invariant-loop-k : goal.invariant-loop-k
invariant-loop-k l = record {
  verdict : IsMendVerdict l.document (take l.k l.ranges) l.judged;
  walk : IsChpWalk (items_at l.document l.walk.story) l.walk;
}
