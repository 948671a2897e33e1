use Rattle.std.proofs.Common.{MatchResult, subst}
use Rattle.edit_ops.specs.Causes.{IsEditFault}
use Rattle.fast_save.specs.Session.{SessionView}
use Rattle.fast_save.specs.Edited.{IsPlannedEdit}
use Rattle.fast_save.proofs.session.Session.plan.Goals as goal

pub returns : goal.returns
returns c =
    let command = c.args.command.now in
    subst
    (λ (view : SessionView).
    MatchResult c.edit_of.result (IsPlannedEdit view.document command) (IsEditFault view.document command))
    c.self.view_is c.edit_of.ensures
