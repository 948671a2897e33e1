-- The item is in its block.
use Rattle.std.proofs.Common.{◌≡◌, ◌+◌, ◌/◌, ◌%◌, ◌<◌, ◌∙◌, ℕ, length, take, sym, ap, arith}
use Rattle.std.specs.Prelude.{slice_get}
use Rattle.chunked_list.specs.Blocks.{joined, block_at, MeasuredList}
use Rattle.chunked_list.proofs.JoinLemmas.{some_blocks, item_of_block}
use Rattle.chunked_list.proofs.SizeLemmas.{full_pass}
use Rattle.chunked_list.proofs.list.BlockList.get.Goals as goal

pub place-place-requires-clause-some : goal.place-place-requires-clause-some
place-place-requires-clause-some g c =
    let all = ap (λ (l : MeasuredList g.row.T.Denot). length l.items) c.self.view_is in
    some_blocks c.self.inside.row.blocks (omega (arith, all, c.requires))

pub returns : goal.returns
returns g c =
    let blocks = c.self.inside.row.blocks in
    let place = c.place-place.result in
    let is = c.place-place.ensures.place in
    let all = ap (λ (l : MeasuredList g.row.T.Denot). length l.items) c.self.view_is in
    let inside = c.place-place.ensures.item (omega (arith, all, c.requires)) in
    ap (λ (l : MeasuredList g.row.T.Denot). slice_get l.items c.args.i) (sym c.self.view_is)
    ∙ ap (λ (n : ℕ). slice_get (joined blocks) n) (sym is.here)
    ∙ item_of_block blocks place.block place.within is.in_block.there inside
    ∙ c.get-2.ensures

pub get-requires-clause-item : goal.get-requires-clause-item
get-requires-clause-item g c =
    let whole = c.self.invariant.sized.whole (c.args.i / 128) (omega arith) in
    omega (arith, whole)

pub returns-then-i-self : goal.returns-then-i-self
returns-then-i-self g c =
    let blocks = c.self.inside.row.blocks in
    let full = c.self.inside.full in
    let sized = c.self.invariant.sized in
    let b = c.args.i / 128 in
    let k = c.args.i % 128 in
    let low : b < full = omega arith in
    let long = sized.whole b low in
    let within : b < length blocks = let there = sized.there in omega arith in
    let inside : k < length (block_at blocks b) = omega (arith, long) in
    let before = full_pass blocks full b sized (omega arith) in
    let here : length (joined (take b blocks)) + k ≡ c.args.i = omega (arith, before) in
    ap (λ (l : MeasuredList g.row.T.Denot). slice_get l.items c.args.i) (sym c.self.view_is)
    ∙ ap (λ (n : ℕ). slice_get (joined blocks) n) (sym here)
    ∙ item_of_block blocks b k within inside
    ∙ c.get.ensures
