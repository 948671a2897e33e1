-- Run by run.
use Rattle.std.proofs.Common.{◌≡◌, ◌∙◌, ◌<◌, ◌≤◌, List, length, get_or, Some, refl, sym, ap, arith, length-take}
use Rattle.std.specs.Prelude.{slice_get}
use Rattle.std.proofs.lemmas.List.{length-map, take_all}
use Rattle.std.proofs.lemmas.Option.{slice_get_read}
use Rattle.run_lists.specs.declared.runs.Run.{Run}
use Rattle.run_lists.specs.declared.cursor.Cursor.{Cursor}
use Rattle.run_lists.specs.Spread.{expanded}
use Rattle.run_lists.proofs.Public.{length-spread, extent-nil, extent_more, extent_all}
use Rattle.doc_model.specs.declared.item.Item.{Item}
use Rattle.doc_columns.specs.declared.attached.Attached.{Attached}
use Rattle.doc_columns.specs.Attached.{attached_of}
use Rattle.doc_columns.proofs.CollectLemmas.{start_at, whole_text, run_inside, run_values, run_maps, run_put}
use Rattle.doc_columns.proofs.columns.Columns.expand.Goals as goal

pub loop-run-init : goal.loop-run-init
loop-run-init c = record {
  place = sym (extent-nil Attached);
  at = start_at c.chps.result.now c.new-cursor.result c.new-cursor.ensures;
  ahead = omega (arith, ap (λ (cursor : Cursor). cursor.begin) c.new-cursor.ensures);
  items = c.new-items.ensures;
}

pub overflow_add-place : goal.overflow_add-place
overflow_add-place c =
    let runs : List (Run Attached) = c.attachments-run-items.result.now in
    let run : Run Attached = c.run-item.result in
    let is : slice_get runs c.loop-run.run-index ≡ Some run =
    slice_get_read runs (length runs) c.loop-run.run-index run refl (omega arith) c.run-item.is in
    let inside = run_inside c.args.self.now runs c.loop-run.run-index c.loop-run.place run
    c.attachments-run-items.ensures is
    c.loop-run.invariant.place in
    omega (arith, inside, c.len-len.ensures.formed.few)

pub push_run-requires-clause-within : goal.push_run-requires-clause-within
push_run-requires-clause-within c =
    let runs : List (Run Attached) = c.attachments-run-items.result.now in
    let run : Run Attached = c.run-item.result in
    let is : slice_get runs c.loop-run.run-index ≡ Some run =
    slice_get_read runs (length runs) c.loop-run.run-index run refl (omega arith) c.run-item.is in
    let inside = run_inside c.args.self.now runs c.loop-run.run-index c.loop-run.place run
    c.attachments-run-items.ensures is
    c.loop-run.invariant.place in
    omega (arith, inside, ap length c.units.ensures, length-map c.args.self.now (λ (item : Item). item.unit))

pub push_run-requires-clause-long : goal.push_run-requires-clause-long
push_run-requires-clause-long c =
    omega (
      arith,
      length-spread c.chps.result.now,
      ap length c.chps.ensures,
      ap length c.units.ensures,
      length-map c.args.self.now (λ (item : Item). item.unit),
      length-map c.args.self.now (λ (item : Item). item.chp),
    )

pub push_run-requires-clause-few : goal.push_run-requires-clause-few
push_run-requires-clause-few c =
    let runs : List (Run Attached) = c.attachments-run-items.result.now in
    let run : Run Attached = c.run-item.result in
    let is : slice_get runs c.loop-run.run-index ≡ Some run =
    slice_get_read runs (length runs) c.loop-run.run-index run refl (omega arith) c.run-item.is in
    let inside = run_inside c.args.self.now runs c.loop-run.run-index c.loop-run.place run
    c.attachments-run-items.ensures is
    c.loop-run.invariant.place in
    omega (
      arith,
      inside,
      ap length c.loop-run.invariant.items,
      length-take c.loop-run.place c.args.self.now,
      c.len-len.ensures.formed.few,
    )

pub push_run-requires-clause-maps : goal.push_run-requires-clause-maps
push_run-requires-clause-maps c =
    let runs : List (Run Attached) = c.attachments-run-items.result.now in
    let run : Run Attached = c.run-item.result in
    let is : slice_get runs c.loop-run.run-index ≡ Some run =
    slice_get_read runs (length runs) c.loop-run.run-index run refl (omega arith) c.run-item.is in
    let whole = whole_text c.args.self.now c.units.result.now (expanded c.chps.result.now) (expanded runs)
    c.units.ensures
    c.chps.ensures c.attachments-run-items.ensures in
    run_maps c.args.self.now c.units.result.now (expanded c.chps.result.now) runs c.loop-run.run-index
    c.loop-run.place run
    c.len-len.ensures.formed.each whole is c.loop-run.invariant.place

pub loop-run-preserved : goal.loop-run-preserved
loop-run-preserved c =
    let runs : List (Run Attached) = c.attachments-run-items.result.now in
    let run : Run Attached = c.run-item.result in
    let within : c.loop-run.run-index < length runs = omega arith in
    let is : slice_get runs c.loop-run.run-index ≡ Some run =
    slice_get_read runs (length runs) c.loop-run.run-index run refl within c.run-item.is in
    let whole = whole_text c.args.self.now c.units.result.now (expanded c.chps.result.now) (expanded runs)
    c.units.ensures
    c.chps.ensures c.attachments-run-items.ensures in
    let count : run.count ≡ (get_or runs c.loop-run.run-index run).count =
    ap (λ (r : Run Attached). r.count) c.run-item.is in
    record {
      place = omega (arith, c.loop-run.invariant.place, extent_more runs c.loop-run.run-index run within, count);
      at = c.in_ok-push_run.ensures.at;
      ahead = c.in_ok-push_run.ensures.ahead;
      items =
          run_put c.args.self.now c.units.result.now (expanded c.chps.result.now) (expanded runs) c.loop-run.place run
          c.loop-run.items c.push_run.new.items whole
          (run_values runs c.loop-run.run-index c.loop-run.place run is c.loop-run.invariant.place)
          c.loop-run.invariant.items c.in_ok-push_run.ensures.items;
    }

pub returns : goal.returns
returns c =
    let runs : List (Run Attached) = c.attachments-run-items.result.now in
    let all : length runs ≤ c.loop-run.run-index = omega arith in
    c.loop-run.invariant.items
    ∙ take_all c.loop-run.place c.args.self.now
    (omega (
      arith,
      c.loop-run.invariant.place,
      extent_all runs c.loop-run.run-index all,
      length-spread runs,
      ap length c.attachments-run-items.ensures,
      length-map c.args.self.now attached_of,
    ))
