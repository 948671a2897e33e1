use Rattle.std.proofs.Common.{◌∙◌, ◌≡◌, ◌++◌, length, map, sym, ap, refl, arith, List}
use Rattle.std.specs.Prelude.{slice_get, Some, replicate}
use Rattle.std.proofs.lemmas.List.{take_all}
use Rattle.std.proofs.lemmas.Option.{slice_get_read}
use Rattle.run_lists.specs.Spread.{expanded}
use Rattle.run_lists.proofs.Public.{All-runs, spread-nil}
use Rattle.doc_columns.specs.declared.attached.Attached.{Attached}
use Rattle.doc_join.specs.JoinedColumns.{renumbered_attached, HasOwnMark}
use Rattle.doc_join.proofs.ColumnLemmas.{runs_more, run_fits}
use Rattle.doc_join.proofs.kept_maps.KeptMaps.attachments.Goals as goal

pub loop-run-init : goal.loop-run-init
loop-run-init c = c.new-made.ensures ∙ ap (map (renumbered_attached c.args.self.now.numbers)) (sym (spread-nil
    Attached))

pub add_attachments-requires-clause-few : goal.add_attachments-requires-clause-few
add_attachments-requires-clause-few c =
    let runs = c.args.runs.now in
    run_fits (renumbered_attached c.args.self.now.numbers) runs c.loop-run.run-index c.run-item.result c.loop-run.made
    (omega arith) c.run-item.is c.requires.few c.loop-run.invariant

pub add_attachments-requires-clause-style : goal.add_attachments-requires-clause-style
add_attachments-requires-clause-style c = λ some.
    let runs = c.args.runs.now in
    let run = c.run-item.result in
    let is : slice_get runs c.loop-run.run-index ≡ Some run =
    slice_get_read runs (length runs) c.loop-run.run-index run refl (omega arith) c.run-item.is in
    All-runs (HasOwnMark c.args.self.now.numbers) runs c.requires.styles c.loop-run.run-index run is some

pub loop-run-preserved : goal.loop-run-preserved
loop-run-preserved c =
    let runs = c.args.runs.now in
    let run = c.run-item.result in
    let numbers = c.args.self.now.numbers in
    c.in_ok-add_attachments.ensures
    ∙ (ap (λ (front : List Attached). front ++ replicate run.count (renumbered_attached numbers run.value))
    c.loop-run.invariant
    ∙ runs_more (renumbered_attached numbers) runs c.loop-run.run-index run (omega arith) c.run-item.is)

pub returns : goal.returns
returns c =
    let runs = c.args.runs.now in
    c.loop-run.invariant
    ∙ ap (λ front. map (renumbered_attached c.args.self.now.numbers) (expanded front))
    (take_all c.loop-run.run-index runs (omega arith))
