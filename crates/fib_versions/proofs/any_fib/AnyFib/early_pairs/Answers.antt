-- One pair more is put in each turn.
use Rattle.std.proofs.Common.{◌≡◌, ◌∙◌, subst, arith}
use Rattle.std.proofs.lemmas.List.{length-set}
use Rattle.fib_versions.specs.Early.{early_pair}
use Rattle.fib_versions.proofs.EarlyLemmas.{early_pairs-by_place, pairs_step}
use Rattle.fib_versions.proofs.any_fib.AnyFib.early_pairs.Goals as goal

pub loop-n-preserved : goal.loop-n-preserved
loop-n-preserved c =
    let pairs = c.loop-n.pairs in
    let invariant = c.loop-n.invariant in
    let pair = c.early_pair-pair.result in
    let here : pair ≡ early_pair c.args.self.now c.loop-n.n =
    subst (λ wd. pair ≡ early_pair wd c.loop-n.n) c.self.view_is c.early_pair-pair.ensures in
    rw c.put.ensures (record {
      count = length-set pairs c.loop-n.n pair ∙ invariant.count;
      put = pairs_step c.args.self.now pairs c.loop-n.n pair (omega (arith, invariant.count)) invariant.put
          here;
    })

pub returns-clause-pairs : goal.returns-clause-pairs
returns-clause-pairs c = early_pairs-by_place c.args.self.now c.loop-n.pairs c.loop-n.invariant.count
    (λ n h. c.loop-n.invariant.put n (omega arith))
