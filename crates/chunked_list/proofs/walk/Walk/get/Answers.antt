-- The item is that of its block.
use Rattle.std.proofs.Common.{◌≡◌, ◌+◌, ◌-◌, ◌∙◌, ℕ, length, take, sym, ap, arith}
use Rattle.std.specs.Prelude.{slice_get}
use Rattle.chunked_list.specs.Blocks.{joined}
use Rattle.chunked_list.proofs.JoinLemmas.{item_of_block}
use Rattle.chunked_list.proofs.walk.Walk.get.Goals as goal

pub returns-clause-value : goal.returns-clause-value
returns-clause-value g c =
    let blocks = c.self.inside.row.now.blocks in
    let mark = c.reach-mark.result in
    let reached = c.reach-mark.ensures in
    let k = c.args.i - mark.before in
    let before = reached.at.before in
    let here : length (joined (take mark.block blocks)) + k ≡ c.args.i = omega (arith, before, reached.ahead) in
    ap (λ l. slice_get l c.args.i) (sym c.self.view_is)
    ∙ ap (λ (n : ℕ). slice_get (joined blocks) n) (sym here)
    ∙ item_of_block blocks mark.block k reached.there (omega (arith, reached.inside, reached.ahead))
    ∙ c.get.ensures
