use Rattle.std.proofs.Common.{subst, sym}
use Rattle.doc_fit.specs.declared.opening.OpenedAny.{OpenedAny}
use Rattle.doc_fit.specs.Opened.{IsOpenedAny}
use Rattle.doc_fit.proofs.opening.open_lifted.Goals as goal

pub returns-in-Ok : goal.returns-in-Ok
returns-in-Ok c =
    subst (λ (o : OpenedAny). IsOpenedAny c.args.file.now o) (sym c.open_parts.ensures) (record {
      before = c.args.lifted;
      lifts = c.requires;
      reported = c.in-Ok.ensures.0;
      sound = c.in-Ok.ensures.1;
    })
