use Rattle.list_numbers.proofs.FirstLemmas.{first_more}
use Rattle.list_numbers.proofs.first_lists.first_lists.Goals as goal

pub loop-k-preserved : goal.loop-k-preserved
loop-k-preserved c =
    first_more c.args.lists.now c.loop-k.firsts c.insert.new.self c.loop-k.k c.get.result.now c.loop-k.invariant
    c.loop-k-test.true c.get.ensures c.in_ok-insert.ensures.updates
