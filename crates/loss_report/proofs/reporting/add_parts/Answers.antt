-- The line of one part more.
use Rattle.std.proofs.Common.{◌≡◌, ◌<◌, ◌+◌, [], sym, arith, subst}
use Rattle.fib_versions.specs.Versions.{fib_pair_count}
use Rattle.loss_report.specs.Features.{part_feature}
use Rattle.loss_report.proofs.ReportLemmas.{one_step, no_more, parts_between, parts-from, no_parts}
use Rattle.loss_report.proofs.reporting.add_parts.Goals as goal

pub loop-n-preserved : goal.loop-n-preserved
loop-n-preserved c =
    let wd = c.args.fib.now in
    let n = c.loop-n.n in
    let count = fib_pair_count wd in
    let below : n < count = omega (arith, c.pair_count-n-end.ensures, c.loop-n-test.true) in
    one_step wd c.loop-n.lines c.add_part.new.lines _ (parts_between wd n count) (part_feature wd n)
    (parts_between wd (n + 1) count) (parts-from wd n count below) c.in_ok-add_part.ensures c.loop-n.invariant

pub returns : goal.returns
returns c =
    let wd = c.args.fib.now in
    let count = fib_pair_count wd in
    let ended : c.loop-n.n ≡ count = omega (arith, c.pair_count-n-end.ensures) in
    let none = subst (λ n. parts_between wd n count ≡ []) (sym ended) (no_parts wd count) in
    no_more wd c.loop-n.lines _ (parts_between wd c.loop-n.n count) none c.loop-n.invariant
