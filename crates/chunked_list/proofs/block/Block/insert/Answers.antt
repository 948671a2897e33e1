-- The lengths go with the items.
use Rattle.std.proofs.Common.{◌≡◌, ◌≤◌, ◌∙◌, ◌++◌, ◌∷◌, take, drop, length, arith, rules, ap}
use Rattle.std.proofs.Common.{length-take-le}
use Rattle.std.proofs.lemmas.List.{take_at}
use Rattle.chunked_list.proofs.UnitLemmas.{before_put, length_put}
use Rattle.chunked_list.proofs.block.Block.insert.Goals as goal

pub write_lengths-requires-clause-before : goal.write_lengths-requires-clause-before
write_lengths-requires-clause-before g c =
    let items = c.self.inside.items.items in
    let new = c.insert.new.self.items in
    let put : new ≡ take c.args.i items ++ (c.args.item ∷ drop c.args.i items) = search rules in
    let within : c.args.i ≤ length items = omega (arith, c.requires.within, ap length c.self.view_is) in
    before_put g.T.Measured.units items new c.self.inside.lens.sums c.args.i c.self.invariant.lengths within
    (ap (take c.args.i) put
    ∙ take_at (take c.args.i items) (c.args.item ∷ drop c.args.i items) c.args.i (length-take-le c.args.i items within))

pub invariant_of-self : goal.invariant_of-self
invariant_of-self g c =
    let items = c.self.inside.items.items in
    let new = c.insert.new.self.items in
    let put : new ≡ take c.args.i items ++ (c.args.item ∷ drop c.args.i items) = search rules in
    let within : c.args.i ≤ length items = omega (arith, c.requires.within, ap length c.self.view_is) in
    let count = length_put items new c.args.item c.args.i within put in
    record {
      lengths = c.write_lengths.ensures.told;
      long = omega (arith, c.write_lengths.ensures.long, c.self.invariant.long);
      most = omega (arith, count, c.requires.room, ap length c.self.view_is);
      room = omega (arith, c.self.invariant.room, c.insert.ensures.capacity);
    }
