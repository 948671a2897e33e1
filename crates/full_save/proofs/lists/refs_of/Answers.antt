use Rattle.std.specs.Prelude.{slice_get}
use Rattle.std.proofs.Common.{◌≡◌, ◌<◌, List, [], Some, length, refl, sym, subst, arith}
use Rattle.std.proofs.lemmas.Option.{slice_get_read}
use Rattle.run_lists.specs.declared.runs.Run.{Run}
use Rattle.run_lists.proofs.Public.{extent-nil}
use Rattle.doc_model.specs.declared.item.Item.{Item}
use Rattle.doc_columns.specs.declared.attached.Attached.{Attached}
use Rattle.doc_parts.specs.declared.lists.NoteRef.{NoteRef}
use Rattle.full_save.specs.Lists.{IsListedUpTo, ref_entry}
use Rattle.full_save.proofs.ListLemmas.{listed_all}
use Rattle.full_save.proofs.ColumnLists.{run_inside, run_after, at_end, listed_begins}
use Rattle.full_save.proofs.lists.refs_of.Goals as goal

pub loop-run-init : goal.loop-run-init
loop-run-init c = (
  sym (extent-nil Attached),
  subst (λ (refs : List NoteRef). IsListedUpTo (λ (item : Item). item.note) ref_entry 0 c.args.main.now 0 [] refs)
      (sym c.new-refs.ensures) (listed_begins (λ (item : Item). item.note) ref_entry 0 c.args.main.now []),
)

pub overflow_add-place : goal.overflow_add-place
overflow_add-place c =
    let runs : List (Run Attached) = c.attachments-run-items.result.now in
    let run : Run Attached = c.run-item.result in
    let below : c.loop-run.run-index < length runs = omega arith in
    let is : slice_get runs c.loop-run.run-index ≡ Some run =
    slice_get_read runs (length runs) c.loop-run.run-index run refl below c.run-item.is in
    let alike = run_inside c.args.main.now runs c.loop-run.run-index c.loop-run.place run
    c.attachments-run-items.ensures is
    c.loop-run.invariant.0 in
    let within = alike.within in
    omega (arith, within, c.len-len.ensures.formed.few)

pub add_ref_run-requires : goal.add_ref_run-requires
add_ref_run-requires c =
    let runs : List (Run Attached) = c.attachments-run-items.result.now in
    let run : Run Attached = c.run-item.result in
    let below : c.loop-run.run-index < length runs = omega arith in
    let is : slice_get runs c.loop-run.run-index ≡ Some run =
    slice_get_read runs (length runs) c.loop-run.run-index run refl below c.run-item.is in
    let alike = run_inside c.args.main.now runs c.loop-run.run-index c.loop-run.place run
    c.attachments-run-items.ensures is
    c.loop-run.invariant.0 in
    let within = alike.within in
    omega (arith, within, c.len-len.ensures.formed.few)

pub loop-run-preserved : goal.loop-run-preserved
loop-run-preserved c =
    let runs : List (Run Attached) = c.attachments-run-items.result.now in
    let run : Run Attached = c.run-item.result in
    let below : c.loop-run.run-index < length runs = omega arith in
    let is : slice_get runs c.loop-run.run-index ≡ Some run =
    slice_get_read runs (length runs) c.loop-run.run-index run refl below c.run-item.is in
    let alike = run_inside c.args.main.now runs c.loop-run.run-index c.loop-run.place run
    c.attachments-run-items.ensures is
    c.loop-run.invariant.0 in (
      run_after runs c.loop-run.run-index c.loop-run.place run is c.loop-run.invariant.0,
      c.in_ok-add_ref_run.ensures c.args.main.now alike c.loop-run.invariant.1,
    )

pub returns : goal.returns
returns c =
    listed_all (λ (item : Item). item.note) ref_entry 0 c.args.main.now c.loop-run.place [] c.loop-run.refs
    (at_end c.args.main.now c.attachments-run-items.result.now c.loop-run.run-index c.loop-run.place
    c.attachments-run-items.ensures (omega arith) c.loop-run.invariant.0) c.loop-run.invariant.1
