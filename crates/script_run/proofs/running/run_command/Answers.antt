use Rattle.std.proofs.Common.{◌∙◌, sym, ap, Some}
use Rattle.std.proofs.lemmas.Result.{on_ok_weaker}
use Rattle.script_run.proofs.StepLemmas.{full_made, full_halts}
use Rattle.script_run.proofs.FastLemmas.{fast_made, fast_halts}
use Rattle.script_run.proofs.running.run_command.Goals as goal

pub returns-in-Some-true-clause-made : goal.returns-in-Some-true-clause-made
returns-in-Some-true-clause-made g c =
    let mode = sym c.mode_of.ensures ∙ (c.in-Some-true.is ∙ ap Some c.in-Some-true.field-0-test) in
    on_ok_weaker c.save_full.result
    (λ save. full_made c.args.command.now c.args.session.now c.save_full.new.session _ mode save) c.save_full.ensures.ok

pub returns-in-Some-true-clause-err : goal.returns-in-Some-true-clause-err
returns-in-Some-true-clause-err g c =
    let mode = sym c.mode_of.ensures ∙ (c.in-Some-true.is ∙ ap Some c.in-Some-true.field-0-test) in
    full_halts c.args.command.now c.args.session.now _ c.args.index c.save_full.result mode c.save_full.ensures.err

pub returns-in-Some-false-clause-made : goal.returns-in-Some-false-clause-made
returns-in-Some-false-clause-made g c =
    let mode = sym c.mode_of.ensures ∙ (c.in-Some-false.is ∙ ap Some c.in-Some-false.field-0-test) in
    on_ok_weaker c.save_fast.result
    (λ save. fast_made c.args.command.now c.args.session.now c.save_fast.new.session _ mode save) c.save_fast.ensures.ok

pub returns-in-Some-false-clause-err : goal.returns-in-Some-false-clause-err
returns-in-Some-false-clause-err g c =
    let mode = sym c.mode_of.ensures ∙ (c.in-Some-false.is ∙ ap Some c.in-Some-false.field-0-test) in
    fast_halts c.args.command.now c.args.session.now _ c.args.index c.save_fast.result mode c.save_fast.ensures.err
