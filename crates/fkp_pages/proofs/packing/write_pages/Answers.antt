use Rattle.std.proofs.Common.{refl}
use Rattle.fkp_pages.proofs.PagesSteps.{no_pages_yet, next_page_written, pages_done}
use Rattle.fkp_pages.proofs.packing.write_pages.Goals as goal

pub loop-done-init : goal.loop-done-init
loop-done-init c = no_pages_yet c.args.kind c.args.runs.now c.new-bytes.result c.new-starts.result c.new-bytes.ensures
    c.new-starts.ensures

pub loop-done-preserved : goal.loop-done-preserved
loop-done-preserved c =
    let count = c.page_len-count.ensures in
    next_page_written c.args.kind c.args.runs.now _ _ c.loop-done.done c.page_len-count.result c.loop-done.bytes
    c.loop-done.starts c.push_page.new.bytes c.add.new.self c.index-runs-done.result c.loop-done.invariant
    c.loop-done-test.true refl refl count.some count.within count.fits count.full c.in_ok-push_page.ensures
    c.in_ok-add.ensures.ok

pub returns : goal.returns
returns c =
    let all = c.loop-done.invariant in
    record {
      parts = all.parts;
      packed = pages_done c.args.kind c.args.runs.now c.loop-done.done c.loop-done.bytes c.loop-done.starts all
          c.loop-done-test.false;
      bytes = all.bytes_are;
      starts = all.starts_are;
    }
