-- The lengths go with the items.
use Rattle.std.proofs.Common.{◌≤◌, ap, set, length, length-set, arith}
use Rattle.std.proofs.lemmas.List.{take-set}
use Rattle.chunked_list.proofs.UnitLemmas.{before_put}
use Rattle.chunked_list.proofs.block.Block.set.Goals as goal

pub write_lengths-requires-clause-before : goal.write_lengths-requires-clause-before
write_lengths-requires-clause-before g c =
    let items = c.self.inside.items.items in
    let within : c.args.i ≤ length items = omega (arith, c.requires, ap length c.self.view_is) in
    before_put g.T.Measured.units items (set items c.args.i c.args.item) c.self.inside.lens.sums c.args.i
    c.self.invariant.lengths within (take-set items c.args.i c.args.item)

pub invariant_of-self : goal.invariant_of-self
invariant_of-self g c =
    let items = c.self.inside.items.items in
    let count = length-set items c.args.i c.args.item in
    record {
      lengths = c.write_lengths.ensures.told;
      long = omega (arith, c.write_lengths.ensures.long, c.self.invariant.long);
      most = omega (arith, count, c.self.invariant.most);
      room = c.self.invariant.room;
    }
