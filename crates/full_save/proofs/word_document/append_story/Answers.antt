use Rattle.std.proofs.Common.{◌∙◌, ◌<◌, ◌++◌, List, ℕ, [], length, take, ap, sym, arith}
use Rattle.std.proofs.lemmas.List.{append-nil, take_all}
use Rattle.std.proofs.lemmas.Option.{get_or_from_slice_get}
use Rattle.doc_model.specs.declared.item.Item.{Item}
use Rattle.doc_model.specs.Collected.{joined_texts}
use Rattle.full_save.specs.Text.{mark_if}
use Rattle.full_save.specs.WordDocument.{units_bytes, items_bytes}
use Rattle.full_save.proofs.TextLemmas.{joined_next, puts_both}
use Rattle.full_save.proofs.word_document.append_story.Goals as goal

pub loop-k-init : goal.loop-k-init
loop-k-init c = sym (append-nil c.args.out.now)

pub loop-k-preserved : goal.loop-k-preserved
loop-k-preserved c =
    let texts = c.args.texts.now in
    let k = c.loop-k.k in
    let end = c.len-k-end.ensures.len in
    let low : k < length texts = let test = c.loop-k-test.true in omega arith in
    let text = c.get.result.now in
    let here = get_or_from_slice_get texts k text [] c.get.ensures in
    let next = joined_next texts k low ∙ ap (λ (xs : List Item). joined_texts (take k texts) ++ xs) here in
    let more = c.in_ok-append_units.ensures.ok
    ∙ ap (λ (units : List ℕ). c.loop-k.out ++ units_bytes units) c.units.ensures in
    puts_both c.args.out.now c.loop-k.out c.append_units.new.out (joined_texts (take k texts)) text c.loop-k.invariant
    more
    ∙ ap (λ (xs : List Item). c.args.out.now ++ items_bytes xs) (sym next)

pub returns : goal.returns
returns c =
    let texts = c.args.texts.now in
    let end = c.len-k-end.ensures.len in
    let test = c.loop-k-test.false in
    let all = take_all c.loop-k.k texts (omega (arith, end, test)) in
    puts_both c.args.out.now c.loop-k.out c.append_mark.new.out (joined_texts (take c.loop-k.k texts))
    (mark_if c.args.marked) c.loop-k.invariant c.in_ok-append_mark.ensures
    ∙ ap (λ (xs : List (List Item)). c.args.out.now ++ items_bytes (joined_texts xs ++ mark_if c.args.marked)) all
