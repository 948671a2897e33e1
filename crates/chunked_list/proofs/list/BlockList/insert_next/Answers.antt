-- An item more, in its block.
use Rattle.std.proofs.Common.{◌+◌, ◌∙◌, ◌∷◌, ◌++◌, ℕ, length, take, drop, ap, arith}
use Rattle.chunked_list.specs.Blocks.{joined, total_units, MeasuredList}
use Rattle.chunked_list.proofs.JoinLemmas.{some_blocks}
use Rattle.chunked_list.proofs.SizeLemmas.{sized_fewer}
use Rattle.chunked_list.proofs.PutLemmas.{in_blocks}
use Rattle.chunked_list.proofs.list.BlockList.insert_next.Goals as goal

pub place-place-requires-clause-some : goal.place-place-requires-clause-some
place-place-requires-clause-some g c =
    let all = ap (λ (l : MeasuredList g.row.T.Denot). length l.items) c.self.view_is in
    some_blocks c.self.inside.row.blocks (omega (arith, all, c.requires.some))

pub put-requires-clause-most : goal.put-requires-clause-most
put-requires-clause-most g c =
    c.self.invariant.sized.most c.place-place.result.block c.place-place.ensures.place.in_block.there

pub put-requires-clause-units : goal.put-requires-clause-units
put-requires-clause-units g c =
    let all = ap (λ (l : MeasuredList g.row.T.Denot). total_units g.T.Measured.units l.items) c.self.view_is in
    omega (arith, all, c.requires.units)

pub invariant_of-self : goal.invariant_of-self
invariant_of-self g c =
    let units = g.T.Measured.units in
    let blocks = c.self.inside.row.blocks in
    let place = c.place-place.result in
    let is = c.place-place.ensures.place in
    let long = ap (λ (l : MeasuredList g.row.T.Denot). length l.items) c.self.view_is in
    let all = ap (λ (l : MeasuredList g.row.T.Denot). total_units units l.items) c.self.view_is in
    in_blocks units c.put.new.row c.put.new.ready.items (joined blocks) c.args.item c.args.i (c.self.inside.count + 1)
    c.min-full.result
    (c.put.ensures.put.sized c.min-full.result (omega (arith, c.min-full.ensures))
    (sized_fewer blocks c.self.inside.full c.min-full.result c.self.invariant.sized (omega (
      arith,
      c.min-full.ensures,
    ))))
    (c.put.ensures.put.items ∙ ap (λ (n : ℕ). take n (joined blocks) ++ (c.args.item ∷ drop n (joined blocks))) is.here)
    (omega (arith, long, c.requires.within)) (omega (arith, c.self.invariant.counted)) c.put.ensures.room
    c.put.ensures.empty (omega (arith, long, c.requires.few)) (omega (arith, all, c.requires.units))

pub returns-clause-items : goal.returns-clause-items
returns-clause-items g c =
    let blocks = c.self.inside.row.blocks in
    c.put.ensures.put.items
    ∙ ap (λ (n : ℕ). take n (joined blocks) ++ (c.args.item ∷ drop n (joined blocks))) c.place-place.ensures.place.here
    ∙ ap (λ (l : MeasuredList g.row.T.Denot). take c.args.i l.items
    ++ (c.args.item ∷ drop c.args.i l.items)) c.self.view_is
