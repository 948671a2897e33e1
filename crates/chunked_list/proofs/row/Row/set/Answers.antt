-- The sum is counted anew.
use Rattle.std.proofs.Common.{◌∙◌, List, set, refl, ap, arith, length-set}
use Rattle.chunked_list.specs.Blocks.{total_units, block_at, BlockRow}
use Rattle.chunked_list.proofs.UnitLemmas.{numbers_set}
use Rattle.chunked_list.proofs.JoinLemmas.{block_read}
use Rattle.chunked_list.proofs.row.Row.set.Goals as goal

pub units-units-requires : goal.units-units-requires
units-units-requires g c =
    let units = g.T.Measured.units in
    let blocks = c.self.inside.blocks.items in
    let now = ap (λ (r : BlockRow g.row.T.Denot). r.blocks) c.self.view_is in
    let old = c.index_mut-changed.result.now in
    let read = block_read blocks c.args.self.now.blocks c.args.block old now c.requires.block
    c.index_mut-changed.ensures.value in
    let same = c.set.ensures ∙ ap (λ (t : List g.row.T.Denot). set t c.args.i c.args.item) read.1 in
    omega (arith, ap (total_units units) same, c.requires.units)

pub invariant_of-self : goal.invariant_of-self
invariant_of-self g c =
    let blocks = c.self.inside.blocks.items in
    let new = c.set.new.self in
    record {
      each = numbers_set (total_units g.T.Measured.units) blocks (set blocks c.args.block new) new
          c.self.inside.sums.sums
          c.set-2.new.self.sums c.args.block c.units-units.result c.self.invariant.each c.units-units.ensures refl
          c.set-2.ensures.sums;
      room = omega (arith, length-set blocks c.args.block new, c.self.invariant.room);
      further = omega (arith, c.set-2.ensures.spare, c.self.invariant.further);
    }

pub returns-clause-blocks : goal.returns-clause-blocks
returns-clause-blocks g c =
    let blocks = c.self.inside.blocks.items in
    let b = c.args.block in
    let now = ap (λ (r : BlockRow g.row.T.Denot). r.blocks) c.self.view_is in
    let old = c.index_mut-changed.result.now in
    let read = block_read blocks c.args.self.now.blocks b old now c.requires.block
    c.index_mut-changed.ensures.value in
    ap (λ (x : List g.row.T.Denot). set blocks b x) c.set.ensures
    ∙ ap (λ (o : List g.row.T.Denot). set blocks b (set o c.args.i c.args.item)) read.1
    ∙ ap (λ (t : List (List g.row.T.Denot)). set t b (set (block_at c.args.self.now.blocks b) c.args.i c.args.item)) now
