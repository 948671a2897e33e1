use Rattle.edit_ops.proofs.CanMakeLemmas.{can_make}
use Rattle.edit_ops.proofs.applying.plan.Goals as goal

pub make_all-requires : goal.make_all-requires
make_all-requires c =
    rw (c.in_ok-changes.ensures, c.in_ok-copy.ensures)
    (can_make c.args.document.now c.args.command.now c.requires.sound c.requires.tried)
