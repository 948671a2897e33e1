use Rattle.std.proofs.Common.{length}
use Rattle.piece_table.proofs.MarkLemmas.{one_marked}
use Rattle.piece_table.proofs.prcs.named_prcs.Goals as goal

pub loop-k-preserved : goal.loop-k-preserved
loop-k-preserved c =
    one_marked c.args.parts.now.plc (length c.args.parts.now.prcs) c.loop-k.k c.loop-k.marks.items
    c.mark.new.marks.items c.prm_of_piece.result c.loop-k.invariant c.prm_of_piece.ensures c.mark.ensures.count
    c.mark.ensures.marked
