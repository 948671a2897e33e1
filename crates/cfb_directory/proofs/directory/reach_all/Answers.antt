use Rattle.std.proofs.Common.{◌≡◌, ◌+◌, ◌<◌, length, slice_index, ap, ◌∙◌, subst, arith}
use Rattle.std.proofs.lemmas.Grind.{get_or_default_zero}
use Rattle.doc_bits.specs.Number.{u32_at}
use Rattle.cfb_directory.specs.Reach.{entry_place, entry_count}
use Rattle.cfb_directory.specs.Seen.{FollowsLink}
use Rattle.cfb_directory.proofs.ReachLemmas.{closed_begin, closed_step, closed_lists, seen_short, seen_entries}
use Rattle.cfb_directory.proofs.directory.reach_all.Goals as goal

pub loop-next-init : goal.loop-next-init
loop-next-init c =
    let count : length c.follow.new.seen ≡ entry_count c.args.directory.now = omega (arith, c.requires.marks) in
    let follows = subst (λ xs. FollowsLink (length c.args.seen.now) c.get32-child.result xs c.follow.new.order.items)
    c.new-order.ensures.items c.in_ok-follow.ensures.follows in
    record {
      seen = c.in_ok-follow.ensures.seen;
      closed = closed_begin c.args.file.now c.args.directory.now c.follow.new.order.items c.get32-child.result
          (length c.args.seen.now)
          (c.get32-child.ensures ∙ ap (λ at. u32_at c.args.file.now (at + 76)) c.entry_place.ensures.place)
          c.requires.marks follows
          (seen_entries c.args.directory.now c.follow.new.order.items c.follow.new.seen c.in_ok-follow.ensures.seen
          count);
    }

pub loop-next-smaller : goal.loop-next-smaller
loop-next-smaller c =
    let short = seen_short c.loop-next.order.items c.loop-next.seen c.loop-next.invariant.seen in
    omega arith

pub loop-next-preserved : goal.loop-next-preserved
loop-next-preserved c =
    let file = c.args.file.now in
    let low : c.loop-next.next < length c.loop-next.order.items = omega arith in
    let entry : c.index.result.now ≡ slice_index c.loop-next.order.items c.loop-next.next =
    c.index.ensures ∙ get_or_default_zero c.loop-next.order.items c.loop-next.next c.index.result.now low in
    let at : c.entry_place-at.result ≡ entry_place c.args.directory.now
    (slice_index c.loop-next.order.items c.loop-next.next) =
    c.entry_place-at.ensures.place ∙ ap (entry_place c.args.directory.now) entry in
    let n : length c.loop-next.seen ≡ entry_count c.args.directory.now = omega (arith, c.requires.marks) in
    let n2 : length c.follow-in-loop-next.new.seen ≡ entry_count c.args.directory.now =
    omega (arith, c.requires.marks) in
    let n3 : length c.follow-in-loop-next-2.new.seen ≡ entry_count c.args.directory.now =
    omega (arith, c.requires.marks) in
    record {
      seen = c.in_ok-follow-3.ensures.seen;
      closed = closed_step c.args.file.now c.args.directory.now c.loop-next.order.items
          c.follow-in-loop-next.new.order.items c.follow-in-loop-next-2.new.order.items
          c.loop-next.next c.get32.result c.get32-in-loop-next.result (length c.loop-next.seen)
          (length c.follow-in-loop-next.new.seen) c.loop-next.invariant.closed low
          (c.get32.ensures ∙ ap (λ x. u32_at c.args.file.now (x + 68)) at)
          (c.get32-in-loop-next.ensures ∙ ap (λ x. u32_at c.args.file.now (x + 72)) at)
          n n2 c.in_ok-follow-2.ensures.follows c.in_ok-follow-3.ensures.follows
          (seen_entries c.args.directory.now c.follow-in-loop-next.new.order.items c.follow-in-loop-next.new.seen
          c.in_ok-follow-2.ensures.seen n2)
          (seen_entries c.args.directory.now c.follow-in-loop-next-2.new.order.items c.follow-in-loop-next-2.new.seen
          c.in_ok-follow-3.ensures.seen n3);
    }

pub returns : goal.returns
returns c =
    let n : length c.loop-next.seen ≡ entry_count c.args.directory.now = omega (arith, c.requires.marks) in
    closed_lists c.args.file.now c.args.directory.now c.loop-next.order.items c.loop-next.seen c.loop-next.next
    c.loop-next.invariant.closed (omega arith) c.loop-next.invariant.seen n
