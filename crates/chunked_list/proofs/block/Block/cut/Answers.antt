-- The lengths go with the items.
use Rattle.std.proofs.Common.{◌≡◌, ◌≤◌, ◌∙◌, ◌++◌, take, drop, length, arith, ap, length-take-le}
use Rattle.std.proofs.lemmas.List.{take_at}
use Rattle.chunked_list.proofs.UnitLemmas.{before_put}
use Rattle.chunked_list.proofs.block.Block.cut.Goals as goal

pub write_lengths-requires-clause-before : goal.write_lengths-requires-clause-before
write_lengths-requires-clause-before g c =
    let items = c.self.inside.items.items in
    let new = c.drop-drain.new.self.0.items in
    let cut : new ≡ take c.args.first items ++ drop c.args.last items = c.drop-drain.ensures.items
    ∙ c.drain.ensures.kept in
    let within : c.args.first ≤ length items =
    omega (arith, c.requires.order, c.requires.within, ap length c.self.view_is) in
    before_put g.T.Measured.units items new c.self.inside.lens.sums c.args.first c.self.invariant.lengths within
    (ap (take c.args.first) cut
    ∙ take_at (take c.args.first items) (drop c.args.last items) c.args.first
    (length-take-le c.args.first items within))
