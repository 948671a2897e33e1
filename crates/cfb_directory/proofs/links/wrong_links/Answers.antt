use Rattle.std.proofs.Common.{◌≡◌, ◌+◌, slice_index, length, sym, subst, arith}
use Rattle.doc_bits.specs.Rules.{Among, LeastOrNone}
use Rattle.doc_bits.proofs.Public.{least_none, least_step}
use Rattle.cfb_directory.specs.Links.{IsWrongLinkAt}
use Rattle.cfb_directory.proofs.LinkLemmas.{links_least}
use Rattle.cfb_directory.proofs.links.wrong_links.Goals as goal

pub loop-link-init : goal.loop-link-init
loop-link-init c = least_none (λ i. IsWrongLinkAt c.args.file.now c.args.directory.now (slice_index c.args.links.now i))

pub loop-link-preserved : goal.loop-link-preserved
loop-link-preserved c =
    subst
    (LeastOrNone (Among (c.loop-link.link-index + 1)
    (λ i. IsWrongLinkAt c.args.file.now c.args.directory.now (slice_index c.args.links.now i))))
    (sym c.lesser-least.ensures)
    (least_step (λ i. IsWrongLinkAt c.args.file.now c.args.directory.now (slice_index c.args.links.now i))
    c.loop-link.link-index c.loop-link.least c.wrong_link.result c.loop-link.invariant c.wrong_link.ensures)

pub returns : goal.returns
returns c =
    let e : c.loop-link.link-index ≡ length c.args.links.now = omega arith in
    links_least c.args.file.now c.args.directory.now c.args.links.now c.loop-link.least c.requires.lists
    (subst (λ n. LeastOrNone (Among n
    (λ i. IsWrongLinkAt c.args.file.now c.args.directory.now (slice_index c.args.links.now i))) c.loop-link.least) e
    c.loop-link.invariant)
