use Rattle.std.proofs.Common.{refl}
use Rattle.fkp_pages.proofs.CountLemmas.{none_counted, next_counted, all_counted}
use Rattle.fkp_pages.proofs.counting.count_pages.Goals as goal

pub loop-done-init : goal.loop-done-init
loop-done-init c = none_counted c.args.kind c.args.runs.now

pub loop-done-preserved : goal.loop-done-preserved
loop-done-preserved c =
    let taken = c.page_len-done.ensures in
    next_counted c.args.kind c.args.runs.now _ c.loop-done.done c.page_len-done.result c.loop-done.count
    c.loop-done.invariant refl taken.some taken.within taken.fits taken.full

pub returns : goal.returns
returns c =
    all_counted c.args.kind c.args.runs.now c.loop-done.done c.loop-done.count c.requires c.loop-done-test.false
    c.loop-done.invariant
