-- A place is counted from the start, as the cursor is.
use Rattle.std.proofs.Common.{◌≡◌, ◌-◌, [], take, arith}
use Rattle.run_lists.specs.Spread.{total_len}
use Rattle.run_lists.proofs.SpreadLemmas.{extent-nil}
use Rattle.run_lists.proofs.RunsLemmas.{spot_inside}
use Rattle.run_lists.proofs.cursor.reach.Goals as goal

pub returns-clause-found : goal.returns-clause-found
returns-clause-found g c =
    let runs = c.args.runs.now in
    let spot = c.find-spot.result in
    let found = c.find-spot.ensures in
    let nothing : total_len {T = g.row.T.Denot} [] ≡ 0 = extent-nil g.row.T.Denot in
    let start : total_len (take 0 runs) ≡ 0 = nothing in
    record {
      begun = omega arith;
      there = found.there;
      here = omega (arith, found.here, c.requires.at.begins, c.requires.ahead, start);
      inside = found.inside;
      ended = found.ended;
    }

pub returns-clause-stops : goal.returns-clause-stops
returns-clause-stops g c = λ less.
    let spot = c.find-spot.result in
    let found = c.find-spot.ensures in
    let begins = c.requires.at.begins in
    let ahead = c.requires.ahead in
    let inside = spot_inside c.args.runs.now c.args.cursor.now.run (c.args.place - c.args.cursor.now.begin) spot found
    (omega arith) in
    let run = found.inside inside in
    record { run = run.0; there = run.1; inside = let left = run.2 in omega arith }
