-- The units of an item more.
use Rattle.std.proofs.Common.{◌≡◌, ◌+◌, ◌<◌, ◌∙◌, List, length, take, get_or, sym, ap, arith, rules}
use Rattle.std.specs.Vec.{vec_len}
use Rattle.chunked_list.specs.Blocks.{total_units}
use Rattle.chunked_list.proofs.UnitLemmas.{units-nil, units_more, units-take-le}
use Rattle.chunked_list.proofs.block.Block.units.Goals as goal

pub loop-i-init : goal.loop-i-init
loop-i-init g c = sym (units-nil g.T.Measured.units)

pub overflow_add-total : goal.overflow_add-total
overflow_add-total g c =
    let units = g.T.Measured.units in
    let items = c.self.inside.items.items in
    let one = c.index.result.now in
    let len : vec_len c.self.inside.items ≡ length items = search rules in
    let low : c.loop-i.i < length items = omega (arith, c.len-i-end.ensures) in
    let here : c.loop-i.total ≡ total_units units (take c.loop-i.i items) =
    c.loop-i.invariant ∙ ap (λ (v : List g.row.T.Denot). total_units units (take c.loop-i.i v)) (sym c.self.view_is) in
    let unit : units (get_or items c.loop-i.i one) ≡ c.units-total.result =
    ap units (sym c.index.ensures) ∙ sym c.units-total.ensures in
    let all : total_units units items ≡ total_units units c.args.self.now = ap (total_units units) c.self.view_is in
    omega (
      arith,
      unit,
      here,
      all,
      units_more units items c.loop-i.i one low,
      units-take-le units items (c.loop-i.i
          + 1),
      c.requires,
    )

pub loop-i-preserved : goal.loop-i-preserved
loop-i-preserved g c =
    let units = g.T.Measured.units in
    let items = c.self.inside.items.items in
    let one = c.index.result.now in
    let len : vec_len c.self.inside.items ≡ length items = search rules in
    let low : c.loop-i.i < length items = omega (arith, c.len-i-end.ensures) in
    let here : c.loop-i.total ≡ total_units units (take c.loop-i.i items) =
    c.loop-i.invariant ∙ ap (λ (v : List g.row.T.Denot). total_units units (take c.loop-i.i v)) (sym c.self.view_is) in
    let unit : units (get_or items c.loop-i.i one) ≡ c.units-total.result =
    ap units (sym c.index.ensures) ∙ sym c.units-total.ensures in
    let more : total_units units (take (c.loop-i.i + 1) items) ≡ total_units units (take (c.loop-i.i + 1)
    c.args.self.now) =
    ap (λ (v : List g.row.T.Denot). total_units units (take (c.loop-i.i + 1) v)) c.self.view_is in
    omega (arith, unit, here, more, units_more units items c.loop-i.i one low)
