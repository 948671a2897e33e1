use Rattle.std.proofs.Common.{◌≡◌, length, subst, arith, slice_index_or}
use Rattle.doc_bits.specs.Rules.{LeastOrNone, Among}
use Rattle.doc_bits.proofs.Public.{least_step}
use Rattle.direct_props.specs.PageRules.{BreaksPageRule}
use Rattle.direct_props.proofs.rules.least_of.Goals as goal

pub loop-place-preserved : goal.loop-place-preserved
loop-place-preserved c =
    rw c.lesser-least.ensures
    (least_step (λ k. BreaksPageRule c.args.rule c.args.kind c.args.wd.now c.args.bin.now (slice_index_or
    c.args.places.now k 0)) c.loop-place.place-index c.loop-place.least c.fault_at.result c.loop-place.invariant
    c.fault_at.ensures)

pub returns : goal.returns
returns c =
    let e : c.loop-place.place-index ≡ length c.args.places.now = omega arith in
    subst (λ n. LeastOrNone (Among n (λ k. BreaksPageRule c.args.rule c.args.kind c.args.wd.now c.args.bin.now
    (slice_index_or c.args.places.now k 0))) c.loop-place.least) e c.loop-place.invariant
