use Rattle.std.proofs.Common.{arith}
use Rattle.fkp_pages.proofs.StretchLemmas.{one_passed, found_here, none_here}
use Rattle.fkp_pages.proofs.runs.first_run.Goals as goal

pub loop-run-init : goal.loop-run-init
loop-run-init c = record {
  passed = record {
    from = c.requires.serves;
    to = omega (arith, c.ranges.fc.fits);
    outside = λ k other below a b. c.requires.from.passed k other below a;
    before = λ k other below a. c.requires.from.passed k other below a;
  };
  begin = c.get32-begin.ensures;
}

pub returns-then-fc-end : goal.returns-then-fc-end
returns-then-fc-end c =
    rw (c.max.ensures, c.min.ensures, c.max-then-fc-end.ensures)
    (found_here c.args.page.now c.args.fc c.loop-run.run c.loop-run.gap.first c.loop-run.gap.last c.loop-run.gap.least
    c.loop-run.begin c.get32-end.result
    c.loop-run.invariant.passed c.loop-run-test.true c.loop-run.invariant.begin c.get32-end.ensures c.if-begin-fc.true
    c.if-fc-end.true)

pub loop-run-preserved : goal.loop-run-preserved
loop-run-preserved c =
    let gap = c.outside-gap.ensures in
    let begin = c.loop-run.invariant.begin in
    let end = c.get32-end.ensures in
    record {
      passed = one_passed c.args.page.now c.args.fc c.loop-run.run c.loop-run.gap.first c.loop-run.gap.last
          c.loop-run.gap.least
          c.outside-gap.result.first c.outside-gap.result.last c.outside-gap.result.least c.loop-run.invariant.passed
          gap.around gap.within (λ other a b from. let there = gap.outside other a b (omega arith) in
          omega arith) (gap.least.0, omega (arith, gap.least.1));
      begin = end;
    }

pub returns : goal.returns
returns c = none_here c.args.page.now c.args.fc c.loop-run.run c.loop-run.gap.first c.loop-run.gap.last
    c.loop-run.gap.least c.loop-run.invariant.passed (omega arith)
