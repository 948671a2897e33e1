use Rattle.std.proofs.Common.{◌≢◌, sym, ◌∙◌, arith}
use Rattle.cfb_layout.specs.Tree.{middle}
use Rattle.cfb_layout.proofs.JoinLemmas.{half_is}
use Rattle.cfb_layout.proofs.tree.part_of.Goals as goal

pub loop-span-preserved : goal.loop-span-preserved
loop-span-preserved c =
    let mid = c.middle.ensures in
    let apart : c.args.entry ≢ middle c.loop-span.span = λ e. c.loop-span-test.true (mid ∙ sym e) in
    let half = half_is c.loop-span.span c.half_with-span.result c.args.entry c.loop-span.invariant.within apart
    c.half_with-span.ensures in
    let room = half.room in
    let before = c.loop-span.invariant.room in
    record { within = half.within; room = omega arith; same = c.loop-span.invariant.same ∙ half.same }
