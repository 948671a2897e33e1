use Rattle.std.proofs.Common.{subst}
use Rattle.overlapping_grpprls.specs.Keeping.{HasCode}
use Rattle.overlapping_grpprls.proofs.KeepingLemmas.{forgotten_at}
use Rattle.overlapping_grpprls.proofs.keeping.forget.Goals as goal

pub returns : goal.returns
returns c =
    let has = subst (λ l. HasCode l c.args.code.0 c.in-Some.number) c.deref.ensures.value c.in-Some.ensures in
    rw c.remove.ensures.items (forgotten_at c.args.kept.now.items c.args.code.0 c.in-Some.number has)
