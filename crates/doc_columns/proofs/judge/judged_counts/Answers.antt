-- Run by run.
use Rattle.std.proofs.Common.{◌≡◌, ◌<◌, List, length, get_or, Some, refl, sym, ap, subst, arith}
use Rattle.std.specs.Prelude.{slice_get}
use Rattle.std.proofs.lemmas.Option.{slice_get_read}
use Rattle.run_lists.specs.declared.runs.Run.{Run}
use Rattle.run_lists.specs.declared.cursor.Cursor.{Cursor}
use Rattle.run_lists.proofs.Public.{extent-nil, extent_more}
use Rattle.plain_doc.specs.declared.text_walk.TextWalk.{TextWalk}
use Rattle.plain_doc.specs.declared.rules_counts.Counts.{Counts}
use Rattle.plain_doc.specs.TextWalk.{EndsWalk, KeepsTextRules, HasTextCounts}
use Rattle.plain_doc.proofs.Public.{none_passed}
use Rattle.doc_columns.specs.declared.attached.Attached.{Attached}
use Rattle.doc_columns.specs.Judging.{IsPassedTo}
use Rattle.doc_columns.proofs.CollectLemmas.{start_at, run_inside}
use Rattle.doc_columns.proofs.JudgeLemmas.{run_at, all_passed_to}
use Rattle.doc_columns.proofs.RightLemmas.{some_more}
use Rattle.doc_columns.proofs.judge.judged_counts.Goals as goal

pub loop-run-init : goal.loop-run-init
loop-run-init c =
    let judged = c.args.judged.now in
    record {
      place = sym (extent-nil Attached);
      at = start_at judged.chps.now c.new-cursor.result c.new-cursor.ensures;
      ahead = omega (arith, ap (λ (cursor : Cursor). cursor.begin) c.new-cursor.ensures);
      passed =
          subst (λ (walk : TextWalk). IsPassedTo judged 0 walk) (sym c.new-walk.ensures)
          (none_passed judged.sheet.now judged.part judged.text.now);
    }

pub overflow_add-place : goal.overflow_add-place
overflow_add-place c =
    let text = c.args.judged.now.text.now in
    let runs : List (Run Attached) = c.attachments-run-items.result.now in
    let run : Run Attached = c.run-item.result in
    let is : slice_get runs c.loop-run.run-index ≡ Some run =
    slice_get_read runs (length runs) c.loop-run.run-index run refl (omega arith) c.run-item.is in
    let inside = run_inside text runs c.loop-run.run-index c.loop-run.place run c.attachments-run-items.ensures is
    c.loop-run.invariant.place in
    omega (arith, inside, c.requires.formed.few)

pub pass_run-requires-clause-run : goal.pass_run-requires-clause-run
pass_run-requires-clause-run c =
    let runs : List (Run Attached) = c.attachments-run-items.result.now in
    let run : Run Attached = c.run-item.result in
    let is : slice_get runs c.loop-run.run-index ≡ Some run =
    slice_get_read runs (length runs) c.loop-run.run-index run refl (omega arith) c.run-item.is in
    run_at c.args.judged.now.text.now runs c.loop-run.run-index c.loop-run.place run c.attachments-run-items.ensures is
    c.loop-run.invariant.place

pub loop-run-preserved : goal.loop-run-preserved
loop-run-preserved c =
    let runs : List (Run Attached) = c.attachments-run-items.result.now in
    let run : Run Attached = c.run-item.result in
    let within : c.loop-run.run-index < length runs = omega arith in
    let count : run.count ≡ (get_or runs c.loop-run.run-index run).count =
    ap (λ (r : Run Attached). r.count) c.run-item.is in
    record {
      place = omega (arith, c.loop-run.invariant.place, extent_more runs c.loop-run.run-index run within, count);
      at = c.in_ok-pass_run.ensures.at;
      ahead = c.in_ok-pass_run.ensures.ahead;
      passed = c.in_ok-pass_run.ensures.passed c.if-not-branch.false;
    }

pub returns : goal.returns
returns c =
    let judged = c.args.judged.now in
    let sheet = judged.sheet.now in
    let text = judged.text.now in
    let passed = all_passed_to judged c.attachments-run-items.result.now c.loop-run.run-index c.loop-run.place
    c.loop-run.walk c.attachments-run-items.ensures (omega arith) c.loop-run.invariant.place c.loop-run.invariant.passed
    in
    some_more (EndsWalk c.loop-run.walk)
    (λ (counts : Counts). KeepsTextRules sheet judged.part text × HasTextCounts text counts) c.counts.result
    (λ counts ends. ends sheet judged.part text c.requires.ends c.requires.formed.few passed) c.counts.ensures
