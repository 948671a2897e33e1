use Rattle.std.proofs.Common.{◌∙◌, ◌+◌, ap, sym, List, arith}
use Rattle.std.proofs.lemmas.List.{take_all}
use Rattle.run_lists.specs.declared.runs.Run.{Run}
use Rattle.run_lists.specs.Spread.{expanded}
use Rattle.doc_columns.specs.declared.attached.Attached.{Attached}
use Rattle.script_run.specs.GeneratedRuns.{marks_beside}
use Rattle.script_run.proofs.MarkCountLemmas.{marks_none, marks_more, marks_within}
use Rattle.script_run.proofs.generating.count_marks.Goals as goal

pub loop-run-init : goal.loop-run-init
loop-run-init c = sym marks_none

pub overflow_add-count : goal.overflow_add-count
overflow_add-count c =
    let runs = c.args.attachments.now in
    let i = c.loop-run.run-index in
    let more = marks_more runs i c.run-item.result c.loop-run-test.true c.run-item.is in
    omega (arith, more, c.loop-run.invariant, c.marks_of-count.ensures, marks_within runs (i + 1), c.requires)

pub loop-run-preserved : goal.loop-run-preserved
loop-run-preserved c =
    let runs = c.args.attachments.now in
    let more = marks_more runs c.loop-run.run-index c.run-item.result c.loop-run-test.true c.run-item.is in
    omega (arith, more, c.loop-run.invariant, c.marks_of-count.ensures)

pub returns : goal.returns
returns c =
    c.loop-run.invariant
    ∙ ap (λ (runs : List (Run Attached)). marks_beside (expanded runs)) (take_all c.loop-run.run-index
    c.args.attachments.now
    c.loop-run-test.false)
