-- Each block before that of the unit has 32 items at least.
use Rattle.std.proofs.Common.{length, ap, arith}
use Rattle.std.proofs.lemmas.Option.{slice_get_within}
use Rattle.chunked_list.specs.Blocks.{joined, MeasuredList}
use Rattle.chunked_list.proofs.SizeLemmas.{blocks_pass}
use Rattle.chunked_list.proofs.list.BlockList.locate.Goals as goal

pub returns-clause-steps : goal.returns-clause-steps
returns-clause-steps g c =
    let blocks = c.self.inside.row.blocks in
    let found = c.find-found.ensures.found in
    let pass = blocks_pass blocks c.self.inside.full c.find-found.result.block c.self.invariant.sized found.there in
    let inside = slice_get_within (joined blocks) c.find-found.result.item found.spot.item found.spot.there in
    let all = ap (λ (l : MeasuredList g.row.T.Denot). length l.items) c.self.view_is in
    omega (arith, pass, found.behind, inside, all, c.find-found.ensures.steps)
