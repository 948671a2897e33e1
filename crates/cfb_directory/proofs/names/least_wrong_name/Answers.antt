use Rattle.std.proofs.Common.{◌≡◌, ◌+◌, slice_index, length, sym, subst, arith}
use Rattle.doc_bits.specs.Rules.{Among, LeastOrNone}
use Rattle.doc_bits.proofs.Public.{least_none, least_step}
use Rattle.cfb_directory.specs.Reach.{IsWrongName}
use Rattle.cfb_directory.proofs.ReachLemmas.{reached_least}
use Rattle.cfb_directory.proofs.names.least_wrong_name.Goals as goal

pub loop-entry-init : goal.loop-entry-init
loop-entry-init c = least_none (λ i. IsWrongName c.args.file.now c.args.directory.now (slice_index c.args.order.now i))

pub loop-entry-preserved : goal.loop-entry-preserved
loop-entry-preserved c =
    subst
    (LeastOrNone (Among (c.loop-entry.entry-index + 1)
    (λ i. IsWrongName c.args.file.now c.args.directory.now (slice_index c.args.order.now i))))
    (sym c.lesser-least.ensures)
    (least_step (λ i. IsWrongName c.args.file.now c.args.directory.now (slice_index c.args.order.now i))
    c.loop-entry.entry-index c.loop-entry.least c.wrong_name.result c.loop-entry.invariant c.wrong_name.ensures)

pub returns : goal.returns
returns c =
    let e : c.loop-entry.entry-index ≡ length c.args.order.now = omega arith in
    reached_least c.args.file.now c.args.directory.now c.args.order.now
    (IsWrongName c.args.file.now c.args.directory.now) c.loop-entry.least c.requires.lists
    (subst (λ n. LeastOrNone (Among n
    (λ i. IsWrongName c.args.file.now c.args.directory.now (slice_index c.args.order.now i))) c.loop-entry.least) e
    c.loop-entry.invariant)
