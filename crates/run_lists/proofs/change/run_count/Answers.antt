-- The end is in the runs.
use Rattle.std.proofs.Common.{◌≡◌, ◌+◌, ◌-◌, ◌<◌, [], length, take, arith}
use Rattle.run_lists.specs.Spread.{total_len}
use Rattle.run_lists.proofs.SpreadLemmas.{extent-nil}
use Rattle.run_lists.proofs.RunsLemmas.{spot_partial}
use Rattle.run_lists.proofs.change.run_count.Goals as goal

pub overflow_add-spot : goal.overflow_add-spot
overflow_add-spot g c =
    let nothing : total_len {T = g.row.T.Denot} [] ≡ 0 = extent-nil g.row.T.Denot in
    let spot = c.args.spot in
    let here : total_len (take spot.run c.args.runs.now) + spot.left ≡ total_len {T = g.row.T.Denot} [] + c.args.from =
    c.requires.found.here in
    omega (arith, nothing, here, c.requires.ordered, c.requires.within, c.requires.few)

pub find-end-requires-clause-within : goal.find-end-requires-clause-within
find-end-requires-clause-within g c =
    let nothing : total_len {T = g.row.T.Denot} [] ≡ 0 = extent-nil g.row.T.Denot in
    let spot = c.args.spot in
    let here : total_len (take spot.run c.args.runs.now) + spot.left ≡ total_len {T = g.row.T.Denot} [] + c.args.from =
    c.requires.found.here in
    omega (arith, nothing, here, c.requires.ordered, c.requires.within)

pub returns : goal.returns
returns g c =
    let spot = c.args.spot in
    let end = c.find-end.result in
    let inside : end.run < length c.args.runs.now =
    spot_partial c.args.runs.now spot.run (spot.left + (c.args.to - c.args.from)) end c.find-end.ensures
    c.if-end-eq0.false in
    omega (arith, inside)
