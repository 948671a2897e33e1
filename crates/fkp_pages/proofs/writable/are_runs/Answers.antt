use Rattle.std.proofs.Common.{refl, subst}
use Rattle.fkp_pages.specs.Runs.{IsWritableRun}
use Rattle.fkp_pages.proofs.RunsTested.{run_more, runs_all}
use Rattle.fkp_pages.proofs.writable.are_runs.Goals as goal

pub loop-i-preserved : goal.loop-i-preserved
loop-i-preserved c =
    run_more c.args.kind c.args.runs.now c.loop-i.i c.index-runs-i.result c.loop-i.invariant c.loop-i-test.true
    (subst (IsWritableRun c.args.kind) c.index-runs-i.is (c.is_writable.ensures.0 c.if-not-is_writable.false))
    (c.touches_last.ensures.0 c.if-not-touches_last.false)

pub returns : goal.returns
returns c = (λ t. runs_all c.args.kind c.args.runs.now c.loop-i.i c.loop-i-test.false c.loop-i.invariant, λ h. refl)
