use Rattle.std.proofs.Common.{arith}
use Rattle.fib_form.proofs.PairLemmas.{fib_pairs-by_place}
use Rattle.fib_form.proofs.reading.pairs.Goals as goal

pub returns : goal.returns
returns c = fib_pairs-by_place c.args.wd.now c.loop-n.pairs c.loop-n.invariant.count (λ n h. c.loop-n.invariant.read n
    (omega arith))
