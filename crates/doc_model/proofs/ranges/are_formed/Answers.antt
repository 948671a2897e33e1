use Rattle.std.proofs.Common.{◌∙◌, get_or, subst, sym, below_more, arith}
use Rattle.std.proofs.lemmas.List.{get_or_default}
use Rattle.doc_model.specs.Document.{HasPropertyMaps, IsFormedItem}
use Rattle.doc_model.proofs.ranges.are_formed.Goals as goal

pub is_formed-requires : goal.is_formed-requires
is_formed-requires c =
    subst HasPropertyMaps (sym c.item-item.is) (c.requires c.loop-item.item-index c.item-item.result (omega arith))

pub loop-item-preserved : goal.loop-item-preserved
loop-item-preserved c d =
    below_more (λ k. IsFormedItem (get_or c.args.items.now k d)) c.loop-item.item-index (c.loop-item.invariant d)
    (subst IsFormedItem (c.item-item.is ∙ get_or_default c.args.items.now c.loop-item.item-index c.item-item.result
    d (omega arith)) c.is_formed.ensures)

pub returns : goal.returns
returns c k d h = c.loop-item.invariant d k (omega (arith, h))
