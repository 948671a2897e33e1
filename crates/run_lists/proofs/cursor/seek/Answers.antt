-- The value in the run that is found.
use Rattle.std.proofs.Common.{◌≡◌, ℕ, ◌+◌, ◌<◌, [], get_or, take, Some, subst, arith}
use Rattle.std.specs.Prelude.{slice_get}
use Rattle.run_lists.specs.Spread.{expanded, total_len}
use Rattle.run_lists.proofs.SpreadLemmas.{extent-nil}
use Rattle.run_lists.proofs.RunsLemmas.{found_value, spot_inside}
use Rattle.run_lists.proofs.cursor.seek.Goals as goal

pub returns-clause-value : goal.returns-clause-value
returns-clause-value g c =
    let runs = c.args.runs.now in
    let nothing : total_len {T = g.row.T.Denot} [] ≡ 0 = extent-nil g.row.T.Denot in
    let place : total_len (take 0 runs) + c.args.place ≡ c.args.place = omega (arith, nothing) in
    let before : total_len (take 0 runs) + c.args.place < total_len runs = omega (arith, nothing, c.requires.within) in
    subst (λ (n : ℕ). slice_get (expanded runs) n ≡ Some (get_or runs c.reach-spot.result.run
    c.index-runs-spot.result).value)
    place
    (found_value runs 0 c.args.place c.reach-spot.result c.index-runs-spot.result c.reach-spot.ensures.found before)

pub bounds-runs-spot : goal.bounds-runs-spot
bounds-runs-spot g c =
    let runs = c.args.runs.now in
    let nothing : total_len {T = g.row.T.Denot} [] ≡ 0 = extent-nil g.row.T.Denot in
    let start : total_len (take 0 runs) ≡ 0 = nothing in
    spot_inside runs 0 c.args.place c.reach-spot.result c.reach-spot.ensures.found
    (omega (arith, start, c.requires.within))
