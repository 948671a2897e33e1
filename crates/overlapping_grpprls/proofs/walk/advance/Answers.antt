use Rattle.std.proofs.Common.{arith}
use Rattle.overlapping_grpprls.proofs.WalkLemmas.{walk_more}
use Rattle.overlapping_grpprls.proofs.walk.advance.Goals as goal

pub loop-entry-preserved : goal.loop-entry-preserved
loop-entry-preserved c =
    rw c.in_ok-push.ensures.items (walk_more c.args.lists.now.stream.now c.args.lists.now.groups c.loop-entry.here
    c.in-Some.entry c.loop-entry.places.items c.in-Some.ensures c.loop-entry.invariant)

pub loop-entry-smaller : goal.loop-entry-smaller
loop-entry-smaller c =
    let later = c.in-Some.ensures.here.later in
    let order = c.in-Some.ensures.here.order in
    let within = c.in-Some.ensures.here.within in
    omega arith
