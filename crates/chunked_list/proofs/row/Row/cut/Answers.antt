-- The sum is counted anew.
use Rattle.std.proofs.Common.{set, refl, ap, arith, length-set}
use Rattle.chunked_list.specs.Blocks.{total_units, BlockRow}
use Rattle.chunked_list.proofs.UnitLemmas.{numbers_set}
use Rattle.chunked_list.proofs.RemoveLemmas.{units-cut-le}
use Rattle.chunked_list.proofs.JoinLemmas.{block_read}
use Rattle.chunked_list.proofs.row.Row.cut.Goals as goal

pub units-units-requires : goal.units-units-requires
units-units-requires g c =
    let units = g.T.Measured.units in
    let blocks = c.self.inside.blocks.items in
    let now = ap (λ (r : BlockRow g.row.T.Denot). r.blocks) c.self.view_is in
    let old = c.index_mut-changed.result.now in
    let read = block_read blocks c.args.self.now.blocks c.args.block old now c.requires.block
    c.index_mut-changed.ensures.value in
    omega (
      arith,
      ap (total_units units) c.cut.ensures,
      units-cut-le units old c.args.first c.args.last c.requires.order,
      ap (total_units units) read.1,
      c.requires.units,
    )

pub invariant_of-self : goal.invariant_of-self
invariant_of-self g c =
    let blocks = c.self.inside.blocks.items in
    let new = c.cut.new.self in
    record {
      each = numbers_set (total_units g.T.Measured.units) blocks (set blocks c.args.block new) new
          c.self.inside.sums.sums
          c.set.new.self.sums c.args.block c.units-units.result c.self.invariant.each c.units-units.ensures refl
          c.set.ensures.sums;
      room = omega (arith, length-set blocks c.args.block new, c.self.invariant.room);
      further = omega (arith, c.set.ensures.spare, c.self.invariant.further);
    }
