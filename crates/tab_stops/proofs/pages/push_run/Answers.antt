use Rattle.std.specs.Prelude.{slice_range}
use Rattle.std.proofs.Common.{refl, ap, ◌+◌}
use Rattle.std.proofs.lemmas.Result.{on_ok_weaker}
use Rattle.tab_stops.proofs.PageLemmas.{run_found, run_none}
use Rattle.tab_stops.proofs.pages.push_run.Goals as goal

pub returns-in-Found : goal.returns-in-Found
returns-in-Found c =
    let page = c.args.page.now in
    let from = c.in-Found.from in
    let to = c.in-Found.to in
    let sprms = from + c.least_list.result in
    on_ok_weaker c.push_list.result
    (run_found page (slice_range page sprms to) c.args.at c.args.run from to sprms c.args.places.now.items
    c.push_list.new.places.items c.in-Found.ensures (ap (λ n. from + n) c.least_list.ensures) refl) c.push_list.ensures

pub returns-in_default : goal.returns-in_default
returns-in_default c =
    run_none c.args.page.now c.args.at c.args.run c.answer_of.result c.args.places.now.items c.answer_of.ensures
    c.in_default.not-Found
