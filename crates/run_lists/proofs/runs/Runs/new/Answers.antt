-- No runs are the empty list.
use Rattle.std.proofs.Common.{◌≡◌, ◌∙◌, ap, arith, length}
use Rattle.run_lists.specs.Spread.{expanded}
use Rattle.run_lists.proofs.SpreadLemmas.{spread-nil}
use Rattle.run_lists.proofs.runs.Runs.new.Goals as goal

pub invariant_of-result : goal.invariant_of-result
invariant_of-result g c =
    let none : length (expanded c.new.result.items) ≡ 0 =
    ap length (ap expanded c.new.ensures.items ∙ spread-nil g.row.T.Denot) in
    omega arith

pub returns : goal.returns
returns g c = ap expanded c.new.ensures.items ∙ spread-nil g.row.T.Denot
