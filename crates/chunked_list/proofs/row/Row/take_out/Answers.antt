-- The sum goes with the block.
use Rattle.std.proofs.Common.{◌≡◌, ◌+◌, ◌<◌, ◌∙◌, ◌++◌, ℕ, List, [], take, drop, map, length, arith, rules, ap, sym}
use Rattle.chunked_list.specs.Blocks.{total_units, BlockRow}
use Rattle.chunked_list.proofs.UnitLemmas.{map_spliced, length_cut}
use Rattle.chunked_list.proofs.row.Row.take_out.Goals as goal

pub invariant_of-self : goal.invariant_of-self
invariant_of-self g c =
    let units = g.T.Measured.units in
    let b = c.args.block in
    let blocks = c.self.inside.blocks.items in
    let new = c.remove.new.self.items in
    let out : new ≡ take b blocks ++ drop (b + 1) blocks = search rules in
    let low : b < length blocks =
    omega (arith, c.requires, ap (λ (r : BlockRow g.row.T.Denot). length r.blocks) c.self.view_is) in
    record {
      each = c.remove-2.ensures.sums
          ∙ ap (λ (l : List ℕ). take b l ++ drop (b + 1) l) c.self.invariant.each
          ∙ sym (map_spliced (total_units units) blocks [] b (b + 1))
          ∙ ap (map (total_units units)) (sym out);
      room = omega (arith, length_cut blocks new b low out, c.self.invariant.room, c.remove.ensures.capacity);
      further = omega (arith, c.remove-2.ensures.spare, c.self.invariant.further);
    }
