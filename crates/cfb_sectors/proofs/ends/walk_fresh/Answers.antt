use Rattle.std.proofs.Common.{◌≡◌, ◌<◌, false, inl, inr, length, slice_index, ap, ◌∙◌, sym, arith, length-set}
use Rattle.std.specs.Prelude.{slice_index_or, not}
use Rattle.std.proofs.lemmas.Bool.{cases_lt}
use Rattle.cfb_sectors.proofs.ChainLemmas.{walk_step, walk_room, met_step, met_apart, length_pushed, pushed_before}
use Rattle.cfb_sectors.proofs.ChainLemmas.{pushed_last}
use Rattle.cfb_sectors.proofs.EndLemmas.{not_known}
use Rattle.cfb_sectors.proofs.ends.walk_fresh.Goals as goal

pub loop-at-smaller : goal.loop-at-smaller
loop-at-smaller c =
    let fresh : slice_index_or c.loop-at.marks c.loop-at.at false ≡ false = sym c.has.ensures ∙ c.if-not-has.true in
    let apart = met_apart c.loop-at.marks c.loop-at.path.items c.loop-at.at c.loop-at.invariant.met fresh in
    let low : c.loop-at.at < length c.loop-at.marks = omega (arith, c.len.ensures) in
    let room = walk_room (λ s. slice_index c.args.entries.now s) (length c.loop-at.marks) c.args.start
    c.loop-at.at c.loop-at.path.items c.loop-at.invariant.walked low apart in
    let more = ap length c.in_ok-push.ensures.items in
    let one = length_pushed c.loop-at.path.items c.loop-at.at in
    let same = ap length c.meet.ensures ∙ length-set c.loop-at.marks c.loop-at.at _ in
    omega arith

pub loop-at-preserved : goal.loop-at-preserved
loop-at-preserved c =
    let fresh : slice_index_or c.loop-at.marks c.loop-at.at false ≡ false = sym c.has.ensures ∙ c.if-not-has.true in
    let apart = met_apart c.loop-at.marks c.loop-at.path.items c.loop-at.at c.loop-at.invariant.met fresh in
    let low : c.loop-at.at < length c.loop-at.marks = omega (arith, c.len.ensures) in
    let next = walk_step (λ s. slice_index c.args.entries.now s) (length c.loop-at.marks) c.args.start
    c.loop-at.at c.loop-at.path.items c.loop-at.invariant.walked low apart in
    let met = met_step c.loop-at.at c.loop-at.marks c.loop-at.path.items c.loop-at.invariant.met low in
    let items = c.in_ok-push.ensures.items in
    let one = length_pushed c.loop-at.path.items c.loop-at.at in
    let len = ap length c.in_ok-push.ensures.items in
    let same = ap length c.meet.ensures ∙ length-set c.loop-at.marks c.loop-at.at _ in
    let new = not_known c.args.ends.now c.loop-at.at c.get.result c.get.ensures
    (c.is_none.ensures ∙ ap not c.if-is_none.true) in
    record {
      walked = rw (same, items) next;
      met = rw (c.meet.ensures, items) met;
      kept = same ∙ c.loop-at.invariant.kept;
      fresh = λ i h. elim (cases_lt i (length c.loop-at.path.items)) [
        | inl lo ↦ rw (items, pushed_before c.loop-at.path.items c.loop-at.at i lo) (c.loop-at.invariant.fresh i lo)
        | inr hi ↦ rw (items, pushed_last c.loop-at.path.items c.loop-at.at i (omega arith)) new
      ];
    }
