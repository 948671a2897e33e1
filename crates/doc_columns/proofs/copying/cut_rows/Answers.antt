-- Run by run.
use Rattle.std.proofs.Common.{◌≡◌, ◌∙◌, ◌<◌, ◌≤◌, ◌++◌, List, length, take, get_or, sym, ap}
use Rattle.std.proofs.Common.{arith}
use Rattle.std.specs.Prelude.{replicate}
use Rattle.std.proofs.lemmas.List.{take_all, take_more}
use Rattle.run_lists.specs.declared.runs.Run.{Run}
use Rattle.run_lists.specs.Spread.{expanded}
use Rattle.run_lists.proofs.Public.{extent-nil, length-spread, extent_more, count_within, spread_push}
use Rattle.doc_columns.proofs.copying.cut_rows.Goals as goal

pub loop-run-init : goal.loop-run-init
loop-run-init g c = record {
  place = sym (extent-nil g.row.T.Denot);
  rows = ap expanded c.in_ok-rows.ensures.items;
}

pub overflow_add-place : goal.overflow_add-place
overflow_add-place g c =
    let runs = c.as_runs-all.result.now in
    let run = c.run-item.result in
    let within : c.loop-run.run-index < length runs = omega arith in
    let count : run.count ≡ (get_or runs c.loop-run.run-index run).count =
    ap (λ (r : Run g.row.T.Denot). r.count) c.run-item.is in
    omega (
      arith,
      c.loop-run.invariant.place,
      count_within runs c.loop-run.run-index run within,
      count,
      length-spread runs,
      ap length c.as_runs-all.ensures.runs,
      c.as_runs-all.ensures.few,
    )

pub push_rows-requires : goal.push_rows-requires
push_rows-requires g c =
    let runs = c.as_runs-all.result.now in
    let run = c.run-item.result in
    let within : c.loop-run.run-index < length runs = omega arith in
    let count : run.count ≡ (get_or runs c.loop-run.run-index run).count =
    ap (λ (r : Run g.row.T.Denot). r.count) c.run-item.is in
    omega (
      arith,
      c.loop-run.invariant.place,
      count_within runs c.loop-run.run-index run within,
      count,
      length-spread runs,
      ap length c.as_runs-all.ensures.runs,
      c.as_runs-all.ensures.few,
    )

pub loop-run-preserved : goal.loop-run-preserved
loop-run-preserved g c =
    let runs = c.as_runs-all.result.now in
    let run = c.run-item.result in
    let k = c.loop-run.run-index in
    let within : k < length runs = omega arith in
    let one : run ≡ get_or runs k run = c.run-item.is in
    let count : run.count ≡ (get_or runs k run).count = ap (λ (r : Run g.row.T.Denot). r.count) one in
    record {
      place = omega (arith, c.loop-run.invariant.place, extent_more runs k run within, count);
      rows =
          c.in_ok-push_rows.ensures
          ∙ ap (λ (t : List g.row.T.Denot). t ++ replicate run.count run.value) c.loop-run.invariant.rows
          ∙ ap (λ (r : Run g.row.T.Denot). expanded (take k runs) ++ replicate r.count r.value) one
          ∙ sym (spread_push (take k runs) (get_or runs k run))
          ∙ ap expanded (sym (take_more runs k run within));
    }

pub returns : goal.returns
returns g c =
    let runs = c.as_runs-all.result.now in
    let all : length runs ≤ c.loop-run.run-index = omega arith in
    c.loop-run.invariant.rows ∙ ap expanded (take_all c.loop-run.run-index runs all) ∙ c.as_runs-all.ensures.runs
