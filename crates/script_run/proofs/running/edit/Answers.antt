use Rattle.std.proofs.lemmas.Result.{err_from_is_err_and}
use Rattle.script_run.proofs.StepLemmas.{edit_made, edit_refused, edit_guarded}
use Rattle.script_run.proofs.running.edit.Goals as goal

pub returns-in_err-edit-clause-err : goal.returns-in_err-edit-clause-err
returns-in_err-edit-clause-err g c =
    let p = err_from_is_err_and c.from_residual.result c.from_residual.ensures.1 in
    rw (p.1, p.2)
    (edit_refused c.args.command.now c.args.session.now _ c.args.index c.in_err-edit.field-0.0 c.requires.edits
    c.in_err-edit.ensures)

pub returns-in_err-edit-2-clause-err : goal.returns-in_err-edit-2-clause-err
returns-in_err-edit-2-clause-err g c =
    let p = err_from_is_err_and c.from_residual-in_err-edit-2.result c.from_residual-in_err-edit-2.ensures.1 in
    let plan = c.in_ok-edit.ensures in
    let refused = c.in_err-edit-2.ensures in
    rw (p.1, p.2, refused.1.0)
    (edit_guarded c.args.command.now c.args.session.now _ c.in_ok-edit.edit.facts refused.0 c.args.index
    c.requires.edits
    plan.0 plan.1.1.1 refused.1.1)

pub returns-clause-made : goal.returns-clause-made
returns-clause-made g c =
    let plan = c.in_ok-edit.ensures in
    edit_made c.args.command.now c.args.session.now c.make.new.self _ _ c.in_ok-edit.edit.facts c.requires.edits plan.0
    plan.1.1.1 c.in_ok-edit-2.ensures.1 c.in_ok-make.ensures.ok c.note_all.ensures.after
