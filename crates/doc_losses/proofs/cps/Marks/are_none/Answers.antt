use Rattle.std.proofs.Common.{refl}
use Rattle.doc_losses.proofs.CpLemmas.{none_kept_named}
use Rattle.doc_losses.proofs.cps.Marks.are_none.Goals as goal

pub returns-then-is_empty : goal.returns-then-is_empty
returns-then-is_empty c = λ t.
    none_kept_named c.args.self.now (c.if-not-is_empty.ensures refl) (c.if-not-is_empty-2.ensures refl)
    (c.if-is_empty.ensures refl) (c.is_empty-then-is_empty.ensures t)
