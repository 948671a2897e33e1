-- The first block has the item alone.
use Rattle.std.proofs.Common.{◌≡◌, ◌∷◌, ◌∙◌, List, [], ap, arith}
use Rattle.chunked_list.specs.Blocks.{total_units}
use Rattle.chunked_list.proofs.UnitLemmas.{units-one}
use Rattle.chunked_list.proofs.PutLemmas.{last_empty}
use Rattle.chunked_list.proofs.put.put_first.Goals as goal

pub insert-requires-2-clause-units : goal.insert-requires-2-clause-units
insert-requires-2-clause-units g c =
    let units = g.T.Measured.units in
    let none : c.in-Some.fresh ≡ [] = last_empty c.args.ready.now.items c.pop.new.self.items c.in-Some.fresh
    c.in-Some.ensures.items c.requires.empty in
    let put : c.insert.new.self ≡ c.args.item ∷ [] =
    c.insert.ensures ∙ ap (λ (t : List g.row.T.Denot). c.args.item ∷ t) none in
    omega (arith, ap (total_units units) put, units-one units c.args.item, c.requires.units)
