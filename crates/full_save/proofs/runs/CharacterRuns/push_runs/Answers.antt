use Rattle.std.proofs.Common.{◌≡◌, ap, sym, ◌∙◌, Some, arith}
use Rattle.std.specs.Prelude.{slice_get}
use Rattle.std.proofs.lemmas.Option.{slice_get-get_or}
use Rattle.doc_model.specs.declared.item.Item.{Item}
use Rattle.full_save.specs.RunsSoFar.{AreCharactersSoFar}
use Rattle.full_save.proofs.ColumnRuns.{walk_begins, walk_next, walk_ends, run_fits}
use Rattle.full_save.proofs.runs.CharacterRuns.push_runs.Goals as goal

pub loop-run-init : goal.loop-run-init
loop-run-init c = walk_begins AreCharactersSoFar (λ (item : Item). item.chp) c.args.runs.now c.args.start
    c.args.self.now

pub overflow_mul-at : goal.overflow_mul-at
overflow_mul-at c =
    let run = c.run-item.result in
    let here : slice_get c.args.runs.now c.loop-run.run-index ≡ Some run =
    slice_get-get_or c.args.runs.now c.loop-run.run-index run c.loop-run-test.true ∙ ap Some (sym c.run-item.is) in
    let fits = run_fits c.args.runs.now c.loop-run.run-index run here in
    let place = c.loop-run.invariant.place in
    let room = c.requires in
    omega (arith, fits, place, room)

pub overflow_add-at : goal.overflow_add-at
overflow_add-at c =
    let run = c.run-item.result in
    let here : slice_get c.args.runs.now c.loop-run.run-index ≡ Some run =
    slice_get-get_or c.args.runs.now c.loop-run.run-index run c.loop-run-test.true ∙ ap Some (sym c.run-item.is) in
    let fits = run_fits c.args.runs.now c.loop-run.run-index run here in
    let place = c.loop-run.invariant.place in
    let room = c.requires in
    omega (arith, fits, place, room)

pub loop-run-preserved : goal.loop-run-preserved
loop-run-preserved c =
    let run = c.run-item.result in
    let here : slice_get c.args.runs.now c.loop-run.run-index ≡ Some run =
    slice_get-get_or c.args.runs.now c.loop-run.run-index run c.loop-run-test.true ∙ ap Some (sym c.run-item.is) in
    walk_next AreCharactersSoFar (λ (item : Item). item.chp) c.args.runs.now c.args.start c.loop-run.run-index
    c.loop-run.at run c.args.self.now
    c.loop-run.self c.push_run.new.self here
    c.in_ok-push_run.ensures
    c.loop-run.invariant

pub returns : goal.returns
returns c =
    walk_ends AreCharactersSoFar (λ (item : Item). item.chp) c.args.runs.now c.args.start c.loop-run.run-index
    c.loop-run.at c.args.self.now c.loop-run.self
    c.loop-run-test.false c.loop-run.invariant
