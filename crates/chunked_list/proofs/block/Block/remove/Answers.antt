-- The lengths go with the items.
use Rattle.std.proofs.Common.{◌≡◌, ◌+◌, ◌<◌, ◌≤◌, ◌++◌, List, take, drop, length, arith, rules, ap, sym, ◌∙◌, Some}
use Rattle.std.proofs.Common.{length-take-le}
use Rattle.std.specs.Prelude.{slice_get}
use Rattle.std.proofs.lemmas.List.{take_at}
use Rattle.std.proofs.lemmas.Option.{slice_get-get_or}
use Rattle.chunked_list.proofs.UnitLemmas.{before_put, length_cut}
use Rattle.chunked_list.proofs.block.Block.remove.Goals as goal

pub write_lengths-requires-clause-before : goal.write_lengths-requires-clause-before
write_lengths-requires-clause-before g c =
    let items = c.self.inside.items.items in
    let new = c.remove-item.new.self.items in
    let cut : new ≡ take c.args.i items ++ drop (c.args.i + 1) items = search rules in
    let within : c.args.i ≤ length items = omega (arith, c.requires, ap length c.self.view_is) in
    before_put g.T.Measured.units items new c.self.inside.lens.sums c.args.i c.self.invariant.lengths within
    (ap (take c.args.i) cut
    ∙ take_at (take c.args.i items) (drop (c.args.i + 1) items) c.args.i (length-take-le c.args.i items within))

pub invariant_of-self : goal.invariant_of-self
invariant_of-self g c =
    let items = c.self.inside.items.items in
    let new = c.remove-item.new.self.items in
    let cut : new ≡ take c.args.i items ++ drop (c.args.i + 1) items = search rules in
    let within : c.args.i < length items = omega (arith, c.requires, ap length c.self.view_is) in
    let count = length_cut items new c.args.i within cut in
    record {
      lengths = c.write_lengths.ensures.told;
      long = omega (arith, c.write_lengths.ensures.long, c.self.invariant.long);
      most = omega (arith, count, c.self.invariant.most);
      room = omega (arith, c.self.invariant.room, c.remove-item.ensures.capacity);
    }

pub returns-clause-value : goal.returns-clause-value
returns-clause-value g c =
    let items = c.self.inside.items.items in
    let within : c.args.i < length items = omega (arith, c.requires, ap length c.self.view_is) in
    ap (λ (v : List g.row.T.Denot). slice_get v c.args.i) (sym c.self.view_is)
    ∙ slice_get-get_or items c.args.i c.remove-item.result within
    ∙ ap (λ (x : g.row.T.Denot). Some x) (sym c.remove-item.ensures.value)
