use Rattle.std.proofs.Common.{◌≡◌, ◌∙◌, ◌+◌, ◌-◌, ◌*◌, ◌^◌, ◌<◌, ◌≤◌, List, length, take, get_or, ap, arith}
use Rattle.std.specs.List.{sum_by}
use Rattle.std.proofs.lemmas.List.Sums.{sum_by_more}
use Rattle.std.proofs.lemmas.Option.{get_or_from_slice_get}
use Rattle.doc_model.specs.declared.item.Item.{Item}
use Rattle.plain_doc.proofs.rules_counts.items_of.Goals as goal

pub loop-k-preserved : goal.loop-k-preserved
loop-k-preserved c =
    let texts : List (List Item) = c.args.texts.now in
    let text : List Item = c.get.result.now in
    let here : get_or texts c.loop-k.k text ≡ text = get_or_from_slice_get texts c.loop-k.k text text c.get.ensures in
    let more : sum_by length (take (c.loop-k.k + 1) texts) ≡ sum_by length (take c.loop-k.k texts) + length
    (get_or texts c.loop-k.k text) = sum_by_more length texts c.loop-k.k text
    (omega (arith, c.len-k-end.ensures.len)) in
    let sum : sum_by length (take (c.loop-k.k + 1) texts) ≡ sum_by length (take c.loop-k.k texts) + length text =
    more ∙ ap (λ t. sum_by length (take c.loop-k.k texts) + length t) here in
    let len : c.len.result ≡ length text = c.len.ensures.len in
    let before : c.loop-k.count ≡ sum_by length (take c.loop-k.k texts) = c.loop-k.invariant.count in
    let few : length text < 2 ^ 32 = c.len.ensures.formed.few in
    let all : c.loop-k.count ≤ c.loop-k.k * (2 ^ 32 - 1) = c.loop-k.invariant.few in
    record { count = omega arith; few = omega arith }
