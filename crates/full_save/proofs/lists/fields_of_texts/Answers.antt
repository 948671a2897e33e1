use Rattle.std.proofs.Common.{◌≡◌, ◌+◌, ◌≤◌, ◌<◌, ◌++◌, length, get_or, [], arith, sym, ap, subst, ◌∙◌}
use Rattle.std.proofs.lemmas.Option.{get_or_from_slice_get}
use Rattle.full_save.specs.Lists.{fields_from}
use Rattle.full_save.proofs.ListLemmas.{IsAtText, HasFieldsUpTo, text_fits, at_next, fields_next, fields_last}
use Rattle.full_save.proofs.lists.fields_of_texts.Goals as goal

pub add_fields-requires : goal.add_fields-requires
add_fields-requires c =
    let texts = c.args.texts.now in
    let end = c.len-k-end.ensures.len in
    let low : c.loop-k.k < length texts = let test = c.loop-k-test.true in omega arith in
    let here = get_or_from_slice_get texts c.loop-k.k c.get-text.result.now [] c.get-text.ensures in
    let size = ap length here in
    let fits = text_fits texts c.loop-k.k c.loop-k.cp low c.loop-k.invariant.0 in
    let small = c.requires in
    omega arith

pub overflow_add-cp : goal.overflow_add-cp
overflow_add-cp c =
    let texts = c.args.texts.now in
    let end = c.len-k-end.ensures.len in
    let low : c.loop-k.k < length texts = let test = c.loop-k-test.true in omega arith in
    let here = get_or_from_slice_get texts c.loop-k.k c.get-text.result.now [] c.get-text.ensures in
    let size = ap length here in
    let fits = text_fits texts c.loop-k.k c.loop-k.cp low c.loop-k.invariant.0 in
    let count = c.len.ensures.len in
    let small = c.requires in
    omega arith

pub loop-k-preserved : goal.loop-k-preserved
loop-k-preserved c =
    let texts = c.args.texts.now in
    let k = c.loop-k.k in
    let cp = c.loop-k.cp in
    let end = c.len-k-end.ensures.len in
    let low : k < length texts = let test = c.loop-k-test.true in omega arith in
    let here = get_or_from_slice_get texts k c.get-text.result.now [] c.get-text.ensures in
    let size : length (get_or texts k []) ≡ c.len.result = ap length here ∙ sym c.len.ensures.len in
    let items = sym here in
    let more = c.in_ok-add_fields.ensures ∙ ap (λ xs. c.loop-k.fields ++ fields_from cp xs) items in (
      subst (λ n. IsAtText texts (k + 1) (cp + n)) size (at_next texts k cp low c.loop-k.invariant.0),
      subst (λ n. HasFieldsUpTo texts (k + 1) (cp + n) c.add_fields.new.fields) size
          (fields_next texts k cp c.loop-k.fields c.add_fields.new.fields low more c.loop-k.invariant.1),
    )

pub returns : goal.returns
returns c =
    let len = c.len-k-end.ensures.len in
    let test = c.loop-k-test.false in
    let past : length c.args.texts.now ≤ c.loop-k.k = omega arith in
    fields_last c.args.texts.now c.loop-k.k c.loop-k.cp c.loop-k.fields past c.loop-k.invariant.1
