use Rattle.std.specs.Prelude.{slice_get}
use Rattle.std.proofs.Common.{◌≡◌, ◌<◌, List, Some, length, refl, ap, sym, arith}
use Rattle.std.proofs.lemmas.List.{length-map}
use Rattle.std.proofs.lemmas.Option.{slice_get_read}
use Rattle.run_lists.specs.declared.runs.Run.{Run}
use Rattle.run_lists.proofs.Public.{extent-nil}
use Rattle.doc_model.specs.declared.item.Item.{Item}
use Rattle.doc_columns.specs.declared.attached.Attached.{Attached}
use Rattle.doc_model.specs.Collected.{field_character}
use Rattle.full_save.specs.Lists.{field_entry}
use Rattle.full_save.proofs.ListLemmas.{listed_all}
use Rattle.full_save.proofs.ColumnLists.{run_inside, run_after, at_end, listed_begins}
use Rattle.full_save.proofs.lists.add_fields.Goals as goal

pub loop-run-init : goal.loop-run-init
loop-run-init c =
    (sym (extent-nil Attached), listed_begins field_character field_entry c.args.cp c.args.text.now c.args.fields.now)

pub overflow_add-place : goal.overflow_add-place
overflow_add-place c =
    let runs : List (Run Attached) = c.attachments-run-items.result.now in
    let run : Run Attached = c.run-item.result in
    let below : c.loop-run.run-index < length runs = omega arith in
    let is : slice_get runs c.loop-run.run-index ≡ Some run =
    slice_get_read runs (length runs) c.loop-run.run-index run refl below c.run-item.is in
    let alike = run_inside c.args.text.now runs c.loop-run.run-index c.loop-run.place run
    c.attachments-run-items.ensures is
    c.loop-run.invariant.0 in
    let within = alike.within in
    let room = c.requires in
    omega (arith, within, room)

pub add_field_run-requires-clause-within : goal.add_field_run-requires-clause-within
add_field_run-requires-clause-within c =
    let runs : List (Run Attached) = c.attachments-run-items.result.now in
    let run : Run Attached = c.run-item.result in
    let below : c.loop-run.run-index < length runs = omega arith in
    let is : slice_get runs c.loop-run.run-index ≡ Some run =
    slice_get_read runs (length runs) c.loop-run.run-index run refl below c.run-item.is in
    let alike = run_inside c.args.text.now runs c.loop-run.run-index c.loop-run.place run
    c.attachments-run-items.ensures is
    c.loop-run.invariant.0 in
    let within = alike.within in
    omega (arith, within, ap length c.units-units.ensures, length-map c.args.text.now (λ (item : Item). item.unit))

pub add_field_run-requires-clause-room : goal.add_field_run-requires-clause-room
add_field_run-requires-clause-room c =
    let room = c.requires in
    omega (arith, room, ap length c.units-units.ensures, length-map c.args.text.now (λ (item : Item). item.unit))

pub loop-run-preserved : goal.loop-run-preserved
loop-run-preserved c =
    let runs : List (Run Attached) = c.attachments-run-items.result.now in
    let run : Run Attached = c.run-item.result in
    let below : c.loop-run.run-index < length runs = omega arith in
    let is : slice_get runs c.loop-run.run-index ≡ Some run =
    slice_get_read runs (length runs) c.loop-run.run-index run refl below c.run-item.is in
    let alike = run_inside c.args.text.now runs c.loop-run.run-index c.loop-run.place run
    c.attachments-run-items.ensures is
    c.loop-run.invariant.0 in (
      run_after runs c.loop-run.run-index c.loop-run.place run is c.loop-run.invariant.0,
      c.in_ok-add_field_run.ensures c.args.text.now c.args.fields.now c.units-units.ensures alike
          c.loop-run.invariant.1,
    )

pub returns : goal.returns
returns c =
    listed_all field_character field_entry c.args.cp c.args.text.now c.loop-run.place c.args.fields.now
    c.loop-run.fields
    (at_end c.args.text.now c.attachments-run-items.result.now c.loop-run.run-index c.loop-run.place
    c.attachments-run-items.ensures (omega arith) c.loop-run.invariant.0) c.loop-run.invariant.1
