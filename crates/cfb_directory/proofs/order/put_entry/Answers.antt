use Rattle.std.proofs.Common.{List, ℕ, sym, subst}
use Rattle.cfb_directory.specs.Order.{AreOrdered}
use Rattle.cfb_directory.proofs.order.put_entry.Goals as goal

pub place_for-place-requires-clause-order : goal.place_for-place-requires-clause-order
place_for-place-requires-clause-order c =
    subst (λ (entries : List ℕ). AreOrdered c.args.file.now c.args.directory.now entries) (sym c.deref.ensures.value)
    c.requires.order
