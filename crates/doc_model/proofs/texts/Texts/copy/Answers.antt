-- A copy has the texts of the range.
use Rattle.std.proofs.Common.{◌≡◌, ◌∙◌, List, ap}
use Rattle.std.specs.Prelude.{slice_range}
use Rattle.std.proofs.lemmas.List.{take_all}
use Rattle.doc_model.specs.declared.item.Item.{Item}
use Rattle.doc_model.specs.Document.{IsFormedText}
use Rattle.doc_model.proofs.FormedLemmas.{IsFormedList-range, copied_more}
use Rattle.doc_model.proofs.texts.Texts.copy.Goals as goal

pub loop-text-preserved : goal.loop-text-preserved
loop-text-preserved c =
    copied_more (slice_range c.deref.result.now c.args.from c.args.to) c.loop-text.texts.items
    c.push_copy.new.texts.items
    c.loop-text.text-index c.text-item.result c.loop-text.invariant c.in_ok-push_copy.ensures c.text-item.is
    c.loop-text-test.true

pub invariant_of-result : goal.invariant_of-result
invariant_of-result c =
    let from = c.args.from in
    let to = c.args.to in
    let all : c.loop-text.texts.items ≡ slice_range c.self.inside.texts.items from to =
    c.loop-text.invariant
    ∙ (take_all c.loop-text.text-index (slice_range c.deref.result.now from to) c.loop-text-test.false
    ∙ ap (λ (texts : List (List Item)). slice_range texts from to) c.deref.ensures.value) in
    IsFormedList-range IsFormedText c.self.inside.texts.items c.loop-text.texts.items from to all c.self.invariant

pub returns : goal.returns
returns c =
    let from = c.args.from in
    let to = c.args.to in
    c.loop-text.invariant
    ∙ (take_all c.loop-text.text-index (slice_range c.deref.result.now from to) c.loop-text-test.false
    ∙ ap (λ (texts : List (List Item)). slice_range texts from to) (c.deref.ensures.value ∙ c.self.view_is))
