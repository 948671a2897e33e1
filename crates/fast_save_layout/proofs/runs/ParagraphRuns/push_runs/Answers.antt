use Rattle.std.proofs.Common.{◌≡◌, ap, sym, refl, ◌∙◌, Some, arith}
use Rattle.std.specs.Prelude.{slice_get}
use Rattle.std.proofs.lemmas.Option.{slice_get-get_or}
use Rattle.doc_columns.specs.Attached.{attached_of}
use Rattle.doc_columns.specs.declared.attached.Attached.{Attached}
use Rattle.full_save.proofs.Public.{alike_of, walk_begins, walk_next, walk_ends, run_fits}
use Rattle.fast_save_layout.specs.RunsSoFar.{AreMarksSoFar}
use Rattle.fast_save_layout.proofs.runs.ParagraphRuns.push_runs.Goals as goal

pub loop-run-init : goal.loop-run-init
loop-run-init c = (walk_begins AreMarksSoFar attached_of c.args.runs.now c.args.begin c.args.self.now, refl)

pub overflow_mul-at : goal.overflow_mul-at
overflow_mul-at c =
    let run = c.run-item.result in
    let here : slice_get c.args.runs.now c.loop-run.run-index ≡ Some run =
    slice_get-get_or c.args.runs.now c.loop-run.run-index run c.loop-run-test.true ∙ ap Some (sym c.run-item.is) in
    let fits = run_fits c.args.runs.now c.loop-run.run-index run here in
    let place = c.loop-run.invariant.0.place in
    let room = c.requires in
    omega (arith, fits, place, room)

pub overflow_add-at : goal.overflow_add-at
overflow_add-at c =
    let run = c.run-item.result in
    let here : slice_get c.args.runs.now c.loop-run.run-index ≡ Some run =
    slice_get-get_or c.args.runs.now c.loop-run.run-index run c.loop-run-test.true ∙ ap Some (sym c.run-item.is) in
    let fits = run_fits c.args.runs.now c.loop-run.run-index run here in
    let place = c.loop-run.invariant.0.place in
    let room = c.requires in
    omega (arith, fits, place, room)

pub push_run-requires : goal.push_run-requires
push_run-requires c =
    let run = c.run-item.result in
    let here : slice_get c.args.runs.now c.loop-run.run-index ≡ Some run =
    slice_get-get_or c.args.runs.now c.loop-run.run-index run c.loop-run-test.true ∙ ap Some (sym c.run-item.is) in
    let fits = run_fits c.args.runs.now c.loop-run.run-index run here in
    let place = c.loop-run.invariant.0.place in
    let room = c.requires in
    omega (arith, fits, place, room)

pub loop-run-preserved : goal.loop-run-preserved
loop-run-preserved c =
    let run = c.run-item.result in
    let here : slice_get c.args.runs.now c.loop-run.run-index ≡ Some run =
    slice_get-get_or c.args.runs.now c.loop-run.run-index run c.loop-run-test.true ∙ ap Some (sym c.run-item.is) in (
      walk_next AreMarksSoFar attached_of c.args.runs.now c.args.begin c.loop-run.run-index c.loop-run.at run
          c.args.self.now c.loop-run.self c.push_run.new.self here
          (λ base done text place at alike so. c.in_ok-push_run.ensures.now base done text place at
          (alike_of attached_of (λ (b : Attached). b.mark) run.value text place run.count alike) so)
          c.loop-run.invariant.0,
      c.in_ok-push_run.ensures.start ∙ c.loop-run.invariant.1,
    )

pub returns-clause-now : goal.returns-clause-now
returns-clause-now c =
    walk_ends AreMarksSoFar attached_of c.args.runs.now c.args.begin c.loop-run.run-index c.loop-run.at c.args.self.now
    c.loop-run.self c.loop-run-test.false c.loop-run.invariant.0
