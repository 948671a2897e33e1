use Rattle.std.proofs.Common.{◌≡◌, ◌∙◌, sym, ap, ◌+◌, take, get_or, arith}
use Rattle.std.specs.List.{sum_by}
use Rattle.std.proofs.lemmas.List.{take_all}
use Rattle.std.proofs.lemmas.List.Sums.{sum_by_more}
use Rattle.doc_show.proofs.CountLemmas.{run_ends, ends_in_spread, front_within}
use Rattle.doc_show.proofs.counts.ends_in.Goals as goal

pub overflow_add-count : goal.overflow_add-count
overflow_add-count c =
    let runs = c.args.runs.now in
    let k = c.loop-run.run-index in
    let run = c.run-item.result in
    let more : sum_by run_ends (take (k + 1) runs) ≡ sum_by run_ends (take k runs) + run_ends (get_or runs k run) =
    sum_by_more run_ends runs k run (omega arith) in
    let here : run_ends run ≡ run_ends (get_or runs k run) = ap run_ends c.run-item.is in
    let ends : c.ends_in_run-count.result ≡ run_ends run = c.ends_in_run-count.ensures in
    omega (arith, more, here, ends, c.loop-run.invariant, front_within runs (k + 1), c.requires)

pub loop-run-preserved : goal.loop-run-preserved
loop-run-preserved c =
    let runs = c.args.runs.now in
    let k = c.loop-run.run-index in
    let run = c.run-item.result in
    let more : sum_by run_ends (take (k + 1) runs) ≡ sum_by run_ends (take k runs) + run_ends (get_or runs k run) =
    sum_by_more run_ends runs k run (omega arith) in
    let here : run_ends run ≡ run_ends (get_or runs k run) = ap run_ends c.run-item.is in
    let ends : c.ends_in_run-count.result ≡ run_ends run = c.ends_in_run-count.ensures in
    omega (arith, more, here, ends, c.loop-run.invariant)

pub returns : goal.returns
returns c =
    let runs = c.args.runs.now in
    c.loop-run.invariant
    ∙ (ap (sum_by run_ends) (take_all c.loop-run.run-index runs (omega arith)) ∙ sym (ends_in_spread runs))
