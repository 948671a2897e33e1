use Rattle.std.proofs.Common.{length}
use Rattle.piece_table.proofs.MarkLemmas.{AreMarked}
use Rattle.piece_table.proofs.prcs.named_prcs.Given as goal

-- the Prcs of the pieces before this one are marked
abbrev pub invariant-loop-k : goal.invariant-loop-k
invariant-loop-k l = AreMarked l.parts.plc (length l.parts.prcs) l.k l.marks.items
