-- A run in two parts is the same list, and the second part begins at the place.
use Rattle.std.proofs.Common.{◌≡◌, ◌<◌, ◌-◌, List, length, get_or, refl, ap, subst, arith}
use Rattle.run_lists.specs.declared.runs.Run.{Run}
use Rattle.run_lists.specs.Places.{IsFoundSpot}
use Rattle.run_lists.proofs.RunsLemmas.{spot_partial, left_inside, cut_same, cut_is}
use Rattle.run_lists.proofs.cut.cut.Goals as goal

pub returns-clause-same : goal.returns-clause-same
returns-clause-same g c =
    let runs = c.args.runs.now.items in
    let spot = c.find-spot.result in
    let one = c.index.result.now in
    let again = c.index-2.result.now in
    let front = c.index_mut-run.result.now in
    let rest : Run g.row.T.Denot = record { count = again.count - spot.left; value = c.in_ok-value.value } in
    let new : Run g.row.T.Denot = record { count = spot.left; value = front.value } in
    let found : IsFoundSpot runs c.args.begin c.args.place spot =
    subst (λ (t : List (Run g.row.T.Denot)). IsFoundSpot t c.args.begin c.args.place spot) c.deref.ensures.value
    c.find-spot.ensures in
    let inside : spot.run < length runs = spot_partial runs c.args.begin c.args.place spot found c.if-spot-eq0.false in
    let left = left_inside runs c.args.begin c.args.place spot again found inside in
    let count : again.count ≡ (get_or runs spot.run again).count =
    ap (λ (r : Run g.row.T.Denot). r.count) c.index-2.ensures in
    cut_same runs c.insert.new.self.items spot.run spot.left one again rest front new (record {
      within = inside;
      first = c.index.ensures;
      second = c.index-2.ensures;
      put = c.in_ok-insert.ensures.items;
      third = c.index_mut-run.ensures.value;
      value = c.in_ok-value.ensures;
      count = refl;
      short = omega (arith, left, count);
    }) refl refl

pub returns-clause-cut : goal.returns-clause-cut
returns-clause-cut g c =
    let runs = c.args.runs.now.items in
    let spot = c.find-spot.result in
    let one = c.index.result.now in
    let again = c.index-2.result.now in
    let front = c.index_mut-run.result.now in
    let rest : Run g.row.T.Denot = record { count = again.count - spot.left; value = c.in_ok-value.value } in
    let new : Run g.row.T.Denot = record { count = spot.left; value = front.value } in
    let found : IsFoundSpot runs c.args.begin c.args.place spot =
    subst (λ (t : List (Run g.row.T.Denot)). IsFoundSpot t c.args.begin c.args.place spot) c.deref.ensures.value
    c.find-spot.ensures in
    let inside : spot.run < length runs = spot_partial runs c.args.begin c.args.place spot found c.if-spot-eq0.false in
    let left = left_inside runs c.args.begin c.args.place spot again found inside in
    let count : again.count ≡ (get_or runs spot.run again).count =
    ap (λ (r : Run g.row.T.Denot). r.count) c.index-2.ensures in
    cut_is runs c.insert.new.self.items c.args.begin c.args.place spot one again rest front new (record {
      within = inside;
      first = c.index.ensures;
      second = c.index-2.ensures;
      put = c.in_ok-insert.ensures.items;
      third = c.index_mut-run.ensures.value;
      value = c.in_ok-value.ensures;
      count = refl;
      short = omega (arith, left, count);
    }) found refl
