use Rattle.std.proofs.Common.{◌≡◌, ◌<◌, false, length, slice_index, ap, ◌∙◌, sym, arith, length-set}
use Rattle.std.specs.Prelude.{slice_index_or}
use Rattle.cfb_sectors.proofs.ChainLemmas.{walk_step, walk_room, length_pushed}
use Rattle.cfb_sectors.proofs.ClaimLemmas.{since_apart, since_step}
use Rattle.cfb_sectors.proofs.chain.walk_on.Goals as goal

pub loop-at-smaller : goal.loop-at-smaller
loop-at-smaller c =
    let fresh : slice_index_or c.loop-at.marks c.loop-at.at false ≡ false = sym c.has.ensures ∙ c.if-not-has.true in
    let apart = since_apart c.args.marks.now c.loop-at.marks c.loop-at.path.items c.loop-at.at c.loop-at.invariant.met
    fresh in
    let low : c.loop-at.at < length c.loop-at.marks = omega (arith, c.len.ensures) in
    let room = walk_room (λ s. slice_index c.args.entries.now s) (length c.loop-at.marks) c.args.start
    c.loop-at.at c.loop-at.path.items c.loop-at.invariant.walked low apart in
    let more = ap length c.in_ok-push.ensures.items in
    let one = length_pushed c.loop-at.path.items c.loop-at.at in
    let same = ap length c.meet.ensures ∙ length-set c.loop-at.marks c.loop-at.at _ in
    omega arith

pub loop-at-preserved : goal.loop-at-preserved
loop-at-preserved c =
    let fresh : slice_index_or c.loop-at.marks c.loop-at.at false ≡ false = sym c.has.ensures ∙ c.if-not-has.true in
    let apart = since_apart c.args.marks.now c.loop-at.marks c.loop-at.path.items c.loop-at.at c.loop-at.invariant.met
    fresh in
    let low : c.loop-at.at < length c.loop-at.marks = omega (arith, c.len.ensures) in
    let next = walk_step (λ s. slice_index c.args.entries.now s) (length c.loop-at.marks) c.args.start
    c.loop-at.at c.loop-at.path.items c.loop-at.invariant.walked low apart in
    let met = since_step c.args.marks.now c.loop-at.marks c.loop-at.path.items c.loop-at.at c.loop-at.invariant.met
    fresh low in
    let items = c.in_ok-push.ensures.items in
    let same = ap length c.meet.ensures ∙ length-set c.loop-at.marks c.loop-at.at _ in
    record
    { walked = rw (same, items) next; met = rw (c.meet.ensures, items) met; kept = same ∙ c.loop-at.invariant.kept }
