-- The sums go with the blocks.
use Rattle.std.proofs.Common.{◌≡◌, ◌++◌, ◌∷◌, take, drop, length, arith, rules, ap}
use Rattle.chunked_list.specs.Blocks.{total_units}
use Rattle.chunked_list.proofs.UnitLemmas.{numbers_put, length_put}
use Rattle.chunked_list.proofs.row.Row.insert.Goals as goal

pub invariant_of-self : goal.invariant_of-self
invariant_of-self g c =
    let blocks = c.self.inside.blocks.items in
    let new = c.insert.new.self.items in
    let put : new ≡ take c.args.number blocks ++ (c.args.block ∷ drop c.args.number blocks) = search rules in
    let old = ap (λ row. length row.blocks) c.self.view_is in
    let count = length_put blocks new c.args.block c.args.number (omega (arith, c.requires.within, old)) put in
    record {
      each = numbers_put (total_units g.T.Measured.units) blocks new c.args.block c.self.inside.sums.sums
          c.insert-2.new.self.sums c.args.number c.units-units.result c.self.invariant.each c.units-units.ensures put
          c.insert-2.ensures.sums;
      room = omega (arith, count, c.self.invariant.room, c.insert.ensures.capacity);
      further = omega (arith, c.self.invariant.further, c.insert-2.ensures.spare);
    }
