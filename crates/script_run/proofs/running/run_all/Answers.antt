use Rattle.std.proofs.Common.{◌≡◌, ◌<◌, ◌≤◌, arith}
use Rattle.std.proofs.lemmas.Result.{err_from_is_err_and}
use Rattle.script_run.proofs.RunLemmas.{run_starts, has_room, run_on, run_ends, stopped_there, told_there}
use Rattle.script_run.proofs.running.run_all.Goals as goal

pub loop-index-init : goal.loop-index-init
loop-index-init g c = run_starts c.args.session.now _ (g.S.Source.commands c.args.source.now) c.requires.unchanged

pub make-requires-clause-room : goal.make-requires-clause-room
make-requires-clause-room g c =
    let commands = g.S.Source.commands c.args.source.now in
    let test = c.loop-index-test.true in
    let count = c.count-index-end.ensures in
    let few = c.requires.few in
    has_room _ commands c.loop-index.index c.loop-index.session _ c.loop-index.invariant (omega arith)

pub returns-in_err-make-clause-err : goal.returns-in_err-make-clause-err
returns-in_err-make-clause-err g c =
    let commands = g.S.Source.commands c.args.source.now in
    let fault = c.in_err-make.field-0.0 in
    let test = c.loop-index-test.true in
    let count = c.count-index-end.ensures in
    let within : c.loop-index.index < commands.count = omega arith in
    let p = err_from_is_err_and c.from_residual.result c.from_residual.ensures.1 in
    rw (p.1, p.2) (stopped_there _ commands c.loop-index.index c.loop-index.session _ c.loop-index.invariant fault
    within c.in_err-make.ensures.err)

pub loop-index-preserved : goal.loop-index-preserved
loop-index-preserved g c =
    run_on _ (g.S.Source.commands c.args.source.now) c.loop-index.index c.loop-index.session _ c.loop-index.invariant
    c.make.new.session _ c.in_ok-make.ensures.made

pub returns-in_err-make-clause-told : goal.returns-in_err-make-clause-told
returns-in_err-make-clause-told g c =
    let commands = g.S.Source.commands c.args.source.now in
    let fault = c.in_err-make.field-0.0 in
    let test = c.loop-index-test.true in
    let count = c.count-index-end.ensures in
    let within : c.loop-index.index ≤ commands.count = omega arith in
    let p = err_from_is_err_and c.from_residual.result c.from_residual.ensures.1 in
    rw (p.1, p.2) (told_there _ commands c.loop-index.index c.loop-index.session _ c.loop-index.invariant fault _
    within c.in_err-make.ensures.told c.in_err-make.ensures.err)

pub returns-clause-ok : goal.returns-clause-ok
returns-clause-ok g c =
    let commands = g.S.Source.commands c.args.source.now in
    let test = c.loop-index-test.false in
    let count = c.count-index-end.ensures in
    let end = c.loop-index.auto.index-end in
    let same : c.loop-index.index ≡ commands.count = omega arith in
    run_ends _ commands c.loop-index.index c.loop-index.session _ c.loop-index.invariant same
