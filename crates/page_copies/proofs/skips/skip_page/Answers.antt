use Rattle.std.proofs.Common.{arith}
use Rattle.page_copies.proofs.CopyLemmas.{copied_none, copied_more, copied_all}
use Rattle.page_copies.proofs.PlaceLemmas.{entries_inside}
use Rattle.page_copies.proofs.skips.skip_page.Goals as goal

pub loop-run-init : goal.loop-run-init
loop-run-init c = copied_none c.args.kind c.args.page.now

pub loop-run-preserved : goal.loop-run-preserved
loop-run-preserved c =
    copied_more c.args.kind c.args.page.now c.loop-run.page c.skip_run.new.page c.loop-run.run c.requires.page
    c.requires.apart (omega (arith, c.run_count-run-end.ensures, c.loop-run-test.true)) c.loop-run.invariant
    c.skip_run.ensures

pub returns : goal.returns
returns c =
    copied_all c.args.kind c.args.page.now c.loop-run.page c.loop-run.run c.requires.page c.requires.apart
    (entries_inside c.args.kind c.args.page.now c.requires.counted)
    (omega (arith, c.run_count-run-end.ensures, c.loop-run-test.false)) c.loop-run.invariant
