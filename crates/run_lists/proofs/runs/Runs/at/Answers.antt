-- The value in the run that is found.
use Rattle.std.proofs.Common.{◌≡◌, ℕ, ◌+◌, List, [], length, get_or, Some, sym, ◌∙◌, ap, subst, arith, rules}
use Rattle.std.specs.Prelude.{slice_get}
use Rattle.std.specs.Vec.{vec_len}
use Rattle.run_lists.specs.declared.runs.Run.{Run}
use Rattle.run_lists.specs.Spread.{expanded, total_len}
use Rattle.run_lists.specs.Places.{IsFoundSpot}
use Rattle.run_lists.proofs.SpreadLemmas.{extent-nil}
use Rattle.run_lists.proofs.RunsLemmas.{extent_of, spot_inside, found_value}
use Rattle.run_lists.proofs.runs.Runs.at.Goals as goal

pub find-spot-requires-clause-within : goal.find-spot-requires-clause-within
find-spot-requires-clause-within g c =
    let nothing : total_len {T = g.row.T.Denot} [] ≡ 0 = extent-nil g.row.T.Denot in
    let all : total_len c.deref.result.now ≡ length c.args.self.now =
    ap total_len c.deref.ensures.value ∙ extent_of c.self.inside.runs.items c.args.self.now c.self.view_is in
    omega (arith, c.requires)

pub index-requires : goal.index-requires
index-requires g c =
    let runs = c.self.inside.runs.items in
    let spot = c.find-spot.result in
    let nothing : total_len {T = g.row.T.Denot} [] ≡ 0 = extent-nil g.row.T.Denot in
    let all : total_len runs ≡ length c.args.self.now = extent_of runs c.args.self.now c.self.view_is in
    let found : IsFoundSpot runs 0 c.args.place spot =
    subst (λ (t : List (Run g.row.T.Denot)). IsFoundSpot t 0 c.args.place spot) c.deref.ensures.value
    c.find-spot.ensures in
    let len : vec_len c.self.inside.runs ≡ length runs = search rules in
    omega (arith, spot_inside runs 0 c.args.place spot found (omega (arith, c.requires)))

pub returns : goal.returns
returns g c =
    let runs = c.self.inside.runs.items in
    let spot = c.find-spot.result in
    let read = c.index.result.now in
    let nothing : total_len {T = g.row.T.Denot} [] ≡ 0 = extent-nil g.row.T.Denot in
    let all : total_len runs ≡ length c.args.self.now = extent_of runs c.args.self.now c.self.view_is in
    let found : IsFoundSpot runs 0 c.args.place spot =
    subst (λ (t : List (Run g.row.T.Denot)). IsFoundSpot t 0 c.args.place spot) c.deref.ensures.value
    c.find-spot.ensures in
    let place : total_len {T = g.row.T.Denot} [] + c.args.place ≡ c.args.place = omega arith in
    let value : slice_get (expanded runs) c.args.place ≡ Some (get_or runs spot.run read).value =
    subst (λ (n : ℕ). slice_get (expanded runs) n ≡ Some (get_or runs spot.run read).value) place
    (found_value runs 0 c.args.place spot read found (omega (arith, c.requires))) in
    ap (λ (v : List g.row.T.Denot). slice_get v c.args.place) (sym c.self.view_is)
    ∙ value
    ∙ ap (λ (r : Run g.row.T.Denot). Some r.value) (sym c.index.ensures)
