use Rattle.std.proofs.Common.{refl, subst, below_more}
use Rattle.piece_table.specs.ClxRules.{IsReadPrm}
use Rattle.piece_table.proofs.judge.first_unread.Goals as goal

pub loop-k-preserved : goal.loop-k-preserved
loop-k-preserved c =
    below_more _ _ c.loop-k.invariant (λ p first_unread. first_unread.1 (subst (λ prm. IsReadPrm c.args.prcs prm)
    c.prm_of_piece.ensures (c.if-not-is_read.ensures.0 refl)))
