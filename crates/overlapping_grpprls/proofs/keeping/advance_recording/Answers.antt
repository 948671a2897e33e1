use Rattle.std.proofs.Common.{◌≡◌, false, sym, arith}
use Rattle.sprm_table.specs.Codes.{class_of, is_clear}
use Rattle.overlapping_grpprls.proofs.KeepingLemmas.{keeping_more}
use Rattle.overlapping_grpprls.proofs.keeping.advance_recording.Goals as goal

pub loop-entry-preserved : goal.loop-entry-preserved
loop-entry-preserved c =
    let entry = c.in-Some.entry in
    let clear : is_clear (class_of entry.code.0) ≡ false = sym c.if-clears.ensures in
    rw (c.in_ok-push-2.ensures.items, c.in_ok-push.ensures.items) (keeping_more c.args.lists.now.stream.now
    c.args.lists.now.groups c.loop-entry.here entry c.loop-entry.places.items c.loop-entry.kept.items
    c.forget.new.kept.items clear c.in-Some.ensures c.forget.ensures c.loop-entry.invariant)

pub loop-entry-smaller : goal.loop-entry-smaller
loop-entry-smaller c =
    let later = c.in-Some.ensures.here.later in
    let order = c.in-Some.ensures.here.order in
    let within = c.in-Some.ensures.here.within in
    omega arith
