-- A copy has the items of the range.
use Rattle.std.proofs.Common.{◌≡◌, ◌∙◌, List, ap}
use Rattle.std.specs.Prelude.{slice_range}
use Rattle.std.proofs.lemmas.List.{take_all}
use Rattle.doc_model.specs.declared.item.Item.{Item}
use Rattle.doc_model.specs.Document.{IsFormedItem}
use Rattle.doc_model.proofs.FormedLemmas.{IsFormedList-range, copied_more}
use Rattle.doc_model.proofs.items.Items.copy.Goals as goal

pub loop-item-preserved : goal.loop-item-preserved
loop-item-preserved c =
    copied_more (slice_range c.deref.result.now c.args.from c.args.to) c.loop-item.items.items
    c.push_copy.new.items.items
    c.loop-item.item-index c.item-item.result c.loop-item.invariant c.in_ok-push_copy.ensures c.item-item.is
    c.loop-item-test.true

pub invariant_of-result : goal.invariant_of-result
invariant_of-result c =
    let from = c.args.from in
    let to = c.args.to in
    let all : c.loop-item.items.items ≡ slice_range c.self.inside.items.items from to =
    c.loop-item.invariant
    ∙ (take_all c.loop-item.item-index (slice_range c.deref.result.now from to) c.loop-item-test.false
    ∙ ap (λ (items : List Item). slice_range items from to) c.deref.ensures.value) in
    IsFormedList-range IsFormedItem c.self.inside.items.items c.loop-item.items.items from to all c.self.invariant

pub returns : goal.returns
returns c =
    let from = c.args.from in
    let to = c.args.to in
    c.loop-item.invariant
    ∙ (take_all c.loop-item.item-index (slice_range c.deref.result.now from to) c.loop-item-test.false
    ∙ ap (λ (items : List Item). slice_range items from to) (c.deref.ensures.value ∙ c.self.view_is))
