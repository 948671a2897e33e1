use Rattle.std.proofs.Common.{◌<◌, ◌∙◌, length, get_or, subst, below_more, arith}
use Rattle.std.proofs.lemmas.List.{get_or_default}
use Rattle.std.proofs.lemmas.Option.{slice_get_within, get_or_from_slice_get}
use Rattle.run_lists.specs.declared.runs.Run.{Run}
use Rattle.run_lists.proofs.Public.{All-spread}
use Rattle.doc_columns.specs.declared.attached.Attached.{Attached}
use Rattle.doc_columns.specs.Attached.{IsRanged}
use Rattle.doc_columns.proofs.ranges.are_ranged.Goals as goal

pub loop-run-preserved : goal.loop-run-preserved
loop-run-preserved c d =
    below_more (λ k. IsRanged (get_or c.args.runs.now k d).value) c.loop-run.run-index (c.loop-run.invariant d)
    (subst (λ (run : Run Attached). IsRanged run.value)
    (c.run-item.is ∙ get_or_default c.args.runs.now c.loop-run.run-index c.run-item.result d (omega arith))
    c.is_ranged.ensures)

pub returns : goal.returns
returns c =
    All-spread IsRanged c.args.runs.now (λ k run is some.
    subst (λ (one : Run Attached). IsRanged one.value) (get_or_from_slice_get c.args.runs.now k run run is)
    (c.loop-run.invariant run k (let h : k < length c.args.runs.now = slice_get_within c.args.runs.now k run is in
    omega (arith, h))))
