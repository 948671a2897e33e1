use Rattle.std.proofs.Common.{◌≡◌, ◌<◌, ◌+◌, ◌++◌, List, [], length, take, get_or, ap, sym, ◌∙◌, arith}
use Rattle.std.proofs.lemmas.List.{length-append}
use Rattle.std.proofs.lemmas.Option.{get_or_from_slice_get}
use Rattle.doc_model.specs.declared.item.Item.{Item}
use Rattle.doc_model.specs.Collected.{joined_texts}
use Rattle.full_save.proofs.TextLemmas.{goes_on_both, goes_on_by, joined_next}
use Rattle.full_save.proofs.text.TextSoFar.push_texts.Goals as goal
use Rattle.doc_model.proofs.Public.{first_joined}

pub push_text-requires : goal.push_text-requires
push_text-requires c =
    let texts = c.args.texts.now in
    let k = c.loop-k.k in
    let end = c.len-k-end.ensures.len in
    let low : k < length texts = let test = c.loop-k-test.true in omega arith in
    let here = get_or_from_slice_get texts k c.get.result.now [] c.get.ensures in
    let size = ap length here in
    let next = ap length (joined_next texts k low) in
    let front = first_joined texts (k + 1) in
    let count = c.loop-k.invariant.1 in
    let small = c.requires in
    omega (arith, length-append (joined_texts (take k texts)) (get_or texts k []))

pub loop-k-preserved : goal.loop-k-preserved
loop-k-preserved c =
    let texts = c.args.texts.now in
    let k = c.loop-k.k in
    let end = c.len-k-end.ensures.len in
    let low : k < length texts = let test = c.loop-k-test.true in omega arith in
    let here = get_or_from_slice_get texts k c.get.result.now [] c.get.ensures in
    let slice = c.get.result.now in
    let is : get_or texts k [] ≡ slice = here in
    let next = joined_next texts k low ∙ ap (λ (xs : List Item). joined_texts (take k texts) ++ xs) is in
    let len = ap length next in
    let count = c.loop-k.invariant.1 in
    let more = c.in_ok-push_text.ensures.count in (
      goes_on_by (joined_texts (take k texts) ++ slice) (joined_texts (take (k + 1) texts)) c.args.self.now
          c.push_text.new.self (sym next)
          (goes_on_both (joined_texts (take k texts)) slice c.args.self.now c.loop-k.self c.push_text.new.self
          c.loop-k.invariant.0 c.in_ok-push_text.ensures.text),
      omega (arith, length-append (joined_texts (take k texts)) slice),
    )
