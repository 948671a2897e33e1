use Rattle.std.specs.Prelude.{slice_get}
use Rattle.std.proofs.Common.{◌≡◌, ◌∙◌, ap, sym, Some, length, List, arith}
use Rattle.std.specs.Prelude.{sum_by}
use Rattle.std.proofs.lemmas.List.{take_all}
use Rattle.std.proofs.lemmas.Option.{slice_get-get_or}
use Rattle.run_lists.specs.declared.runs.Run.{Run}
use Rattle.run_lists.specs.Spread.{expanded, total_len}
use Rattle.run_lists.proofs.Public.{All-runs}
use Rattle.doc_columns.specs.declared.attached.Attached.{Attached}
use Rattle.full_save.specs.Lengths.{measured, IsMeasurable}
use Rattle.full_save.proofs.ColumnRuns.{run_fits}
use Rattle.full_save.proofs.MeasureLemmas.{none_measured, one_measured, all_measured}
use Rattle.full_save.proofs.measures.runs_measure.Goals as goal

pub loop-run-init : goal.loop-run-init
loop-run-init c = none_measured c.args.measure c.args.runs.now

pub run_measure-sum-requires-clause-each : goal.run_measure-sum-requires-clause-each
run_measure-sum-requires-clause-each c =
    let run = c.run-item.result in
    let here : slice_get c.args.runs.now c.loop-run.run-index ≡ Some run =
    slice_get-get_or c.args.runs.now c.loop-run.run-index run c.loop-run-test.true ∙ ap Some (sym c.run-item.is) in
    λ some. All-runs (IsMeasurable c.args.measure) c.args.runs.now c.requires.each c.loop-run.run-index run here some

pub run_measure-sum-requires-clause-few : goal.run_measure-sum-requires-clause-few
run_measure-sum-requires-clause-few c =
    let run = c.run-item.result in
    let here : slice_get c.args.runs.now c.loop-run.run-index ≡ Some run =
    slice_get-get_or c.args.runs.now c.loop-run.run-index run c.loop-run-test.true ∙ ap Some (sym c.run-item.is) in
    let few = c.requires.few in
    omega (arith, few, run_fits c.args.runs.now c.loop-run.run-index run here)

pub overflow_add-sum : goal.overflow_add-sum
overflow_add-sum c =
    let run = c.run-item.result in
    let here : slice_get c.args.runs.now c.loop-run.run-index ≡ Some run =
    slice_get-get_or c.args.runs.now c.loop-run.run-index run c.loop-run-test.true ∙ ap Some (sym c.run-item.is) in
    let so = c.loop-run.invariant.bound in
    let more = c.run_measure-sum.ensures.bound in
    let few = c.requires.few in
    omega (arith, so, more, few, run_fits c.args.runs.now c.loop-run.run-index run here)

pub loop-run-preserved : goal.loop-run-preserved
loop-run-preserved c =
    let run = c.run-item.result in
    let here : slice_get c.args.runs.now c.loop-run.run-index ≡ Some run =
    slice_get-get_or c.args.runs.now c.loop-run.run-index run c.loop-run-test.true ∙ ap Some (sym c.run-item.is) in
    one_measured c.args.measure c.args.runs.now c.loop-run.run-index c.loop-run.sum c.run_measure-sum.result run here
    c.run_measure-sum.ensures.is c.run_measure-sum.ensures.bound c.loop-run.invariant

pub returns-clause-is : goal.returns-clause-is
returns-clause-is c =
    let all = all_measured c.args.measure c.args.runs.now c.loop-run.run-index c.loop-run.sum c.loop-run-test.false
    c.loop-run.invariant in
    all.is ∙ ap (λ (rs : List (Run Attached)). sum_by (measured c.args.measure) (expanded rs))
    (take_all (length c.args.runs.now) c.args.runs.now (omega arith))

pub returns-clause-bound : goal.returns-clause-bound
returns-clause-bound c =
    let all = all_measured c.args.measure c.args.runs.now c.loop-run.run-index c.loop-run.sum c.loop-run-test.false
    c.loop-run.invariant in
    let bound = all.bound in
    let same = ap (λ (rs : List (Run Attached)). total_len rs)
    (take_all (length c.args.runs.now) c.args.runs.now (omega arith)) in
    omega (arith, bound, same)
