-- Another item, in its block.
use Rattle.std.proofs.Common.{◌∙◌, ℕ, length, set, ap, arith}
use Rattle.chunked_list.specs.Blocks.{joined, total_units, MeasuredList}
use Rattle.chunked_list.proofs.JoinLemmas.{some_blocks}
use Rattle.chunked_list.proofs.SetLemmas.{set_joined, set_in_blocks, set_units}
use Rattle.chunked_list.proofs.list.BlockList.set.Goals as goal

pub place-place-requires-clause-some : goal.place-place-requires-clause-some
place-place-requires-clause-some g c =
    let all = ap (λ (l : MeasuredList g.row.T.Denot). length l.items) c.self.view_is in
    some_blocks c.self.inside.row.blocks (omega (arith, all, c.requires.within))

pub set-requires-clause-units : goal.set-requires-clause-units
set-requires-clause-units g c =
    let units = g.T.Measured.units in
    let blocks = c.self.inside.row.blocks in
    let is = c.place-place.ensures.place in
    let place = c.place-place.result in
    let long = ap (λ (l : MeasuredList g.row.T.Denot). length l.items) c.self.view_is in
    let inside = c.place-place.ensures.item (omega (arith, long, c.requires.within)) in
    let same = ap (λ (l : MeasuredList g.row.T.Denot). total_units units (set l.items c.args.i c.args.item))
    c.self.view_is in
    let part = set_units units blocks place.block place.within c.args.i c.args.item is.in_block.there inside is.here in
    omega (arith, same, part, c.requires.units)

pub invariant_of-self : goal.invariant_of-self
invariant_of-self g c =
    let units = g.T.Measured.units in
    let is = c.place-place.ensures.place in
    let place = c.place-place.result in
    let long = ap (λ (l : MeasuredList g.row.T.Denot). length l.items) c.self.view_is in
    let inside = c.place-place.ensures.item (omega (arith, long, c.requires.within)) in
    let same = ap (λ (l : MeasuredList g.row.T.Denot). total_units units (set l.items c.args.i c.args.item))
    c.self.view_is in
    set_in_blocks units c.self.inside.row c.set.new.self c.self.inside.ready.items c.self.inside.count
    c.self.inside.full
    place.block place.within c.args.i c.args.item c.self.invariant is.in_block.there inside is.here c.set.ensures.blocks
    c.set.ensures.spare (omega (arith, same, c.requires.units))

pub returns-clause-items : goal.returns-clause-items
returns-clause-items g c =
    let blocks = c.self.inside.row.blocks in
    let is = c.place-place.ensures.place in
    let place = c.place-place.result in
    let long = ap (λ (l : MeasuredList g.row.T.Denot). length l.items) c.self.view_is in
    let inside = c.place-place.ensures.item (omega (arith, long, c.requires.within)) in
    ap joined c.set.ensures.blocks
    ∙ set_joined blocks place.block place.within c.args.item is.in_block.there inside
    ∙ ap (λ (n : ℕ). set (joined blocks) n c.args.item) is.here
    ∙ ap (λ (l : MeasuredList g.row.T.Denot). set l.items c.args.i c.args.item) c.self.view_is
