use Rattle.std.proofs.Common.{arith}
use Rattle.code_losses.specs.Pages.{IsFoundInRun}
use Rattle.code_losses.proofs.JoinLemmas.{counts_none, counts_more}
use Rattle.code_losses.proofs.pages.count_page.Goals as goal

pub loop-run-init : goal.loop-run-init
loop-run-init c = record {
  codes = c.requires.codes;
  seen = omega arith;
  counted = λ lists counted.
      counts_none (IsFoundInRun c.args.kind c.args.page.now) lists c.args.counts.now counted;
}

pub loop-run-preserved : goal.loop-run-preserved
loop-run-preserved c =
    let inv = c.loop-run.invariant in
    record {
      codes = c.count_run.ensures.codes;
      seen = omega (arith, c.count_run.ensures.seen, inv.seen);
      counted = λ lists counted.
          counts_more (IsFoundInRun c.args.kind c.args.page.now) c.loop-run.run lists c.loop-run.counts
          c.count_run.new.counts (inv.counted lists counted) c.count_run.ensures.counted;
    }
