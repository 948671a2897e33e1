use Rattle.std.specs.Prelude.{slice_get}
use Rattle.std.proofs.Common.{◌≡◌, ◌∙◌, ◌++◌, List, Some, ap, sym, take, length, arith}
use Rattle.std.proofs.lemmas.List.{append-nil, length-append}
use Rattle.std.proofs.lemmas.Option.{slice_get-get_or}
use Rattle.run_lists.specs.Spread.{expanded}
use Rattle.run_lists.proofs.Public.{spread-nil, length-spread}
use Rattle.full_save.proofs.Public.{run_fits}
use Rattle.session_text.proofs.GatherLemmas.{runs_more}
use Rattle.session_text.proofs.gathered.put_runs.Goals as goal

pub loop-run-init : goal.loop-run-init
loop-run-init g c =
    sym (ap (λ (l : List g.row.T.Denot). c.args.out.now ++ l) (spread-nil g.row.T.Denot) ∙ append-nil c.args.out.now)

pub add-requires : goal.add-requires
add-requires g c =
    let runs = c.args.runs.now in
    let k = c.loop-run.run-index in
    let run = c.run-item.result in
    let here : slice_get runs k ≡ Some run =
    slice_get-get_or runs k run c.loop-run-test.true ∙ ap Some (sym c.run-item.is) in
    record {
      few =
          omega (
            arith,
            run_fits runs k run here,
            ap length c.loop-run.invariant,
            length-append c.args.out.now (expanded (take k runs)),
            length-spread (take k runs),
            c.requires,
          );
    }

pub loop-run-preserved : goal.loop-run-preserved
loop-run-preserved g c =
    let runs = c.args.runs.now in
    let k = c.loop-run.run-index in
    let run = c.run-item.result in
    let here : slice_get runs k ≡ Some run =
    slice_get-get_or runs k run c.loop-run-test.true ∙ ap Some (sym c.run-item.is) in
    runs_more runs k run c.args.out.now c.loop-run.out c.add.new.self c.in_ok-value.value here c.loop-run.invariant
    c.in_ok-value.ensures c.in_ok-add.ensures.ok
