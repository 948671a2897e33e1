-- Run by run.
use Rattle.std.proofs.Common.{◌≡◌, List, length, refl, Some, arith}
use Rattle.std.specs.Prelude.{slice_get}
use Rattle.std.proofs.lemmas.Option.{slice_get_read}
use Rattle.run_lists.specs.declared.runs.Run.{Run}
use Rattle.doc_columns.specs.declared.attached.Attached.{Attached}
use Rattle.doc_patch.proofs.PlaceLemmas.{none_counted, counted_more, all_counted}
use Rattle.doc_patch.proofs.places.count_before.Goals as goal

pub loop-run-init : goal.loop-run-init
loop-run-init c = none_counted c.args.part c.args.runs.now c.args.at

pub overflow_add-count : goal.overflow_add-count
overflow_add-count c =
    omega (
      arith,
      c.loop-run.invariant.few,
      c.loop-run.invariant.within,
      c.count_within-count.ensures.few,
      c.min-some.ensures,
    )

pub loop-run-preserved : goal.loop-run-preserved
loop-run-preserved c =
    let runs : List (Run Attached) = c.args.runs.now in
    let run : Run Attached = c.run-item.result in
    let is : slice_get runs c.loop-run.run-index ≡ Some run =
    slice_get_read runs (length runs) c.loop-run.run-index run refl (omega arith) c.run-item.is in
    counted_more c.args.part runs c.loop-run.run-index c.args.at c.loop-run.left c.loop-run.count c.min-some.result
    c.count_within-count.result run is c.min-some.ensures c.count_within-count.ensures.count
    c.count_within-count.ensures.few
    c.loop-run.invariant

pub returns-clause-count : goal.returns-clause-count
returns-clause-count c =
    all_counted c.args.part c.args.runs.now c.loop-run.run-index c.args.at c.loop-run.left c.loop-run.count
    (omega arith) c.requires c.loop-run.invariant

pub returns-clause-few : goal.returns-clause-few
returns-clause-few c = omega (arith, c.loop-run.invariant.few)
