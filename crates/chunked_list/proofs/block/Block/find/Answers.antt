-- The unit is in this item, or behind it.
use Rattle.std.proofs.Common.{◌≡◌, ◌+◌, ◌-◌, ◌<◌, List, length, take, sym, subst, arith, rules}
use Rattle.std.specs.Vec.{vec_len}
use Rattle.chunked_list.specs.Blocks.{total_units, IsSpotOf}
use Rattle.chunked_list.proofs.UnitLemmas.{units-nil, spot_here, spot_behind}
use Rattle.chunked_list.proofs.block.Block.find.Goals as goal

pub loop-item-init : goal.loop-item-init
loop-item-init g c = record {
  here = omega (arith, units-nil g.T.Measured.units);
  steps = omega arith;
}

pub returns-then-within-units-clause-spot : goal.returns-then-within-units-clause-spot
returns-then-within-units-clause-spot g c =
    let units = g.T.Measured.units in
    let items = c.self.inside.items.items in
    let len : vec_len c.self.inside.items ≡ length items = search rules in
    let low : c.loop-item.item < length items = omega (arith, c.len-item-end.ensures) in
    let here : total_units units (take c.loop-item.item items) + c.loop-item.within ≡ c.args.place =
    subst (λ (v : List g.row.T.Denot). total_units units (take c.loop-item.item v) + c.loop-item.within ≡ c.args.place)
    (sym c.self.view_is) c.loop-item.invariant.here in
    subst (λ (v : List g.row.T.Denot). IsSpotOf units v c.args.place
    (record { item = c.loop-item.item; within = c.loop-item.within })) c.self.view_is
    (spot_here units items c.self.inside.lens.sums c.loop-item.item c.get-units.result c.args.place c.loop-item.within
    c.self.invariant.lengths low c.get-units.ensures.found c.if-within-units.true here)

pub loop-item-preserved : goal.loop-item-preserved
loop-item-preserved g c =
    let units = g.T.Measured.units in
    let items = c.self.inside.items.items in
    let len : vec_len c.self.inside.items ≡ length items = search rules in
    let low : c.loop-item.item < length items = omega (arith, c.len-item-end.ensures) in
    let here : total_units units (take c.loop-item.item items) + c.loop-item.within ≡ c.args.place =
    subst (λ (v : List g.row.T.Denot). total_units units (take c.loop-item.item v) + c.loop-item.within ≡ c.args.place)
    (sym c.self.view_is) c.loop-item.invariant.here in
    record {
      here = subst (λ (v : List g.row.T.Denot). total_units units (take (c.loop-item.item + 1) v)
          + (c.loop-item.within - c.get-units.result) ≡ c.args.place) c.self.view_is
          (spot_behind units items c.self.inside.lens.sums c.loop-item.item c.get-units.result c.args.place
          c.loop-item.within c.self.invariant.lengths low c.get-units.ensures.found c.if-within-units.false here);
      steps = omega (arith, c.get-units.ensures.step, c.loop-item.invariant.steps);
    }
