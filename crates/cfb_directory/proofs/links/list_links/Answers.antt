use Rattle.std.proofs.Common.{◌+◌, [], ◌∷◌, ◌++◌, sym, ap, ◌∙◌, subst}
use Rattle.cfb_directory.proofs.LinkLemmas.{IsLinkFront, front_step}
use Rattle.cfb_directory.proofs.links.list_links.Goals as goal

pub loop-entry-preserved : goal.loop-entry-preserved
loop-entry-preserved c =
    let items = c.in_ok-push-3.ensures.items ∙ ap (λ xs. xs ++ (c.entry_place-at.result + 72) ∷ [])
    c.in_ok-push-2.ensures.items in
    subst (IsLinkFront c.args.file.now c.args.directory.now c.args.order.now (c.loop-entry.entry-index + 1)) (sym items)
    (front_step c.args.file.now c.args.directory.now c.args.order.now c.loop-entry.links.items c.loop-entry.entry-index
    c.entry_place-at.result c.loop-entry.invariant
    (c.requires.lists.sound c.loop-entry.entry-index c.loop-entry-test.true) c.entry_place-at.ensures.place
    c.entry_place-at.ensures.inside)
