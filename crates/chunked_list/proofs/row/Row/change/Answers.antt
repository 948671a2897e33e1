-- The sums stay.
use Rattle.std.proofs.Common.{◌∙◌, sym, arith, length-set}
use Rattle.chunked_list.specs.Blocks.{total_units}
use Rattle.chunked_list.proofs.RangeLemmas.{map_kept}
use Rattle.chunked_list.proofs.row.Row.change.Goals as goal

pub invariant_of-self : goal.invariant_of-self
invariant_of-self g c =
    let blocks = c.self.inside.blocks.items in
    let new = c.change.new.self in
    record {
      each = c.self.invariant.each
          ∙ sym (map_kept (total_units g.T.Measured.units) blocks c.args.block c.index_mut-changed.result.now new
          c.index_mut-changed.ensures.value c.change.ensures.units);
      room = omega (arith, length-set blocks c.args.block new, c.self.invariant.room);
      further = c.self.invariant.further;
    }
