use Rattle.std.proofs.Common.{ℕ, None, subst, sym}
use Rattle.docview_run.specs.Endings.{IsOfFile, RunEnds, ShowsFile}
use Rattle.docview_run.proofs.lifting.show_lifted.Goals as goal

pub show_found-status-requires-clause-opened : goal.show_found-status-requires-clause-opened
show_found-status-requires-clause-opened g c = c.in-Ok.ensures

pub returns-clause-ends : goal.returns-clause-ends
returns-clause-ends g c =
    subst (λ (status : ℕ). RunEnds (ShowsFile c.args.view None c.args.name.now c.args.file.now) g.K.Sink c.args.out.now
    c.show_found-status.new.out status) (sym c.drop_then.ensures) c.show_found-status.ensures.ends

pub returns-clause-after : goal.returns-clause-after
returns-clause-after g c = subst IsOfFile (sym c.drop_then.ensures) c.show_found-status.ensures.after
