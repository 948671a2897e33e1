use Rattle.std.specs.Prelude.{slice_get}
use Rattle.std.proofs.Common.{◌≡◌, ◌<◌, List, Some, length, refl, sym, arith}
use Rattle.std.proofs.lemmas.Option.{slice_get_read}
use Rattle.run_lists.specs.declared.runs.Run.{Run}
use Rattle.run_lists.proofs.Public.{extent-nil}
use Rattle.doc_columns.specs.declared.attached.Attached.{Attached}
use Rattle.full_save.proofs.SectionLemmas.{sepxes_all}
use Rattle.full_save.proofs.ColumnLists.{run_inside, run_after, at_end, some_savable, sepxes_begin}
use Rattle.full_save.proofs.sections.append_sepxes.Goals as goal

pub loop-run-init : goal.loop-run-init
loop-run-init c = (
  sym (extent-nil Attached),
  sepxes_begin c.args.main.now c.args.base c.args.out.now _ c.new.ensures,
)

pub overflow_add-place : goal.overflow_add-place
overflow_add-place c =
    let runs : List (Run Attached) = c.attachments-run-items.result.now in
    let run : Run Attached = c.run-item.result in
    let below : c.loop-run.run-index < length runs = omega arith in
    let is : slice_get runs c.loop-run.run-index ≡ Some run =
    slice_get_read runs (length runs) c.loop-run.run-index run refl below c.run-item.is in
    let alike = run_inside c.args.main.now runs c.loop-run.run-index c.loop-run.place run
    c.attachments-run-items.ensures is
    c.loop-run.invariant.0 in
    let within = alike.within in
    let few = c.requires.few in
    omega (arith, within, few)

pub add_run-requires-clause-sections : goal.add_run-requires-clause-sections
add_run-requires-clause-sections c =
    let runs : List (Run Attached) = c.attachments-run-items.result.now in
    let run : Run Attached = c.run-item.result in
    let below : c.loop-run.run-index < length runs = omega arith in
    let is : slice_get runs c.loop-run.run-index ≡ Some run =
    slice_get_read runs (length runs) c.loop-run.run-index run refl below c.run-item.is in
    let alike = run_inside c.args.main.now runs c.loop-run.run-index c.loop-run.place run
    c.attachments-run-items.ensures is
    c.loop-run.invariant.0 in
    λ some. some_savable c.args.main.now run.value c.loop-run.place run.count c.requires.sections alike some

pub add_run-requires-clause-few : goal.add_run-requires-clause-few
add_run-requires-clause-few c =
    let runs : List (Run Attached) = c.attachments-run-items.result.now in
    let run : Run Attached = c.run-item.result in
    let below : c.loop-run.run-index < length runs = omega arith in
    let is : slice_get runs c.loop-run.run-index ≡ Some run =
    slice_get_read runs (length runs) c.loop-run.run-index run refl below c.run-item.is in
    let alike = run_inside c.args.main.now runs c.loop-run.run-index c.loop-run.place run
    c.attachments-run-items.ensures is
    c.loop-run.invariant.0 in
    let within = alike.within in
    let few = c.requires.few in
    omega (arith, within, few)

pub add_run-requires-clause-room : goal.add_run-requires-clause-room
add_run-requires-clause-room c =
    let runs : List (Run Attached) = c.attachments-run-items.result.now in
    let run : Run Attached = c.run-item.result in
    let below : c.loop-run.run-index < length runs = omega arith in
    let is : slice_get runs c.loop-run.run-index ≡ Some run =
    slice_get_read runs (length runs) c.loop-run.run-index run refl below c.run-item.is in
    let alike = run_inside c.args.main.now runs c.loop-run.run-index c.loop-run.place run
    c.attachments-run-items.ensures is
    c.loop-run.invariant.0 in
    let within = alike.within in
    let few = c.requires.few in
    let room = c.requires.room in
    let so_far = c.loop-run.invariant.1.few in
    omega (arith, within, few, room, so_far)

pub loop-run-preserved : goal.loop-run-preserved
loop-run-preserved c =
    let runs : List (Run Attached) = c.attachments-run-items.result.now in
    let run : Run Attached = c.run-item.result in
    let below : c.loop-run.run-index < length runs = omega arith in
    let is : slice_get runs c.loop-run.run-index ≡ Some run =
    slice_get_read runs (length runs) c.loop-run.run-index run refl below c.run-item.is in
    let alike = run_inside c.args.main.now runs c.loop-run.run-index c.loop-run.place run
    c.attachments-run-items.ensures is
    c.loop-run.invariant.0 in (
      run_after runs c.loop-run.run-index c.loop-run.place run is c.loop-run.invariant.0,
      c.in_ok-add_run.ensures c.args.main.now c.args.out.now alike c.loop-run.invariant.1,
    )

pub returns-clause-bytes : goal.returns-clause-bytes
returns-clause-bytes c =
    (sepxes_all c.args.main.now c.args.base c.args.out.now c.loop-run.place
    (record { start = c.loop-run.sections.start; out = c.loop-run.out; seds = c.loop-run.sections.seds })
    (at_end c.args.main.now c.attachments-run-items.result.now c.loop-run.run-index c.loop-run.place
    c.attachments-run-items.ensures (omega arith) c.loop-run.invariant.0) c.loop-run.invariant.1).0

pub returns-clause-seds : goal.returns-clause-seds
returns-clause-seds c =
    (sepxes_all c.args.main.now c.args.base c.args.out.now c.loop-run.place
    (record { start = c.loop-run.sections.start; out = c.loop-run.out; seds = c.loop-run.sections.seds })
    (at_end c.args.main.now c.attachments-run-items.result.now c.loop-run.run-index c.loop-run.place
    c.attachments-run-items.ensures (omega arith) c.loop-run.invariant.0) c.loop-run.invariant.1).1
